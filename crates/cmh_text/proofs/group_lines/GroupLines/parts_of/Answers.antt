use Rattle.std.proofs.Common.{subst, sym}
use Rattle.std.specs.Prelude.{Contains}
use Rattle.cmh_graph.specs.Core.{leaders}
use Rattle.cmh_text.proofs.Numbers.{leader_within}
use Rattle.cmh_text.proofs.group_lines.GroupLines.parts_of.Goals as goal

pub find_base-requires : goal.find_base-requires
find_base-requires c = leader_within c.args.self.now c.args.leader c.requires

pub reach_marks-requires : goal.reach_marks-requires
reach_marks-requires c =
    leader_within c.self.inside.graph.now c.args.leader
    (subst (λ g. Contains (leaders g) c.args.leader) (sym c.self.view_is) c.requires)
