use Rattle.std.proofs.Common.{subst}
use Rattle.std.specs.Prelude.{Contains, IfSome}
use Rattle.cmh_text.proofs.Numbers.{leader_within}
use Rattle.cmh_text.proofs.shared_reach.greatest_reach.Goals as goal

pub leader_reach_of-requires : goal.leader_reach_of-requires
leader_reach_of-requires c =
    leader_within c.args.graph.now c.in-Some.leader
    (subst (λ xs. Contains xs c.in-Some.leader) c.requires.list
    (subst (λ o. IfSome o (Contains c.args.groups.now.list.items)) c.in-Some.is c.in_ok-leader.ensures))
