use Rattle.std.specs.Prelude.{Contains, IfSome}
use Rattle.cmh_text.proofs.shared_reach.leader_of_most.Given as goal

abbrev pub invariant-loop-leader : goal.invariant-loop-leader
invariant-loop-leader l = IfSome l.best (λ p. Contains l.groups.list.items p)
