use Rattle.std.proofs.Common.{◌≡◌, eqb, length, map}
use Rattle.std.specs.List.{range_with_len}
use Rattle.cmh_graph.specs.Search.{predecessors_at}
use Rattle.cmh_graph.proofs.graph.WaitGraph.marks_without_predecessors.Given as goal

abbrev pub invariant-loop-p : goal.invariant-loop-p
invariant-loop-p l = l.marks.items ≡ map (λ p. eqb (length (predecessors_at l.predecessors p)) 0) (range_with_len 0 l.p)
