use Rattle.std.proofs.Common.{◌≤◌, length}
use Rattle.std.specs.Prelude.{All}
use Rattle.cmh_graph.proofs.PartLemmas.{SeenUpTo, stamped}
use Rattle.cmh_graph.proofs.judge.first_repeat.Given as goal

abbrev pub invariant-loop-j : goal.invariant-loop-j
invariant-loop-j l =
    SeenUpTo l.j l.list (length l.stamps) (stamped l.stamp l.stamps) × All (λ s. s ≤ l.stamp) l.stamps
