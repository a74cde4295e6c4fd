use Rattle.std.proofs.Common.{◌+◌, length}
use Rattle.cmh_graph.specs.Search.{unmarked_count}
use Rattle.cmh_graph.proofs.BackwardSearch.{ReturnsTo}
use Rattle.cmh_graph.proofs.graph.WaitGraph.core_by.Given as goal

abbrev pub invariant-loop-q : goal.invariant-loop-q
invariant-loop-q l = ReturnsTo l.self l.p l.marks.items l.pending.items l.core.items

abbrev pub decreases-loop-q : goal.decreases-loop-q
decreases-loop-q l = unmarked_count l.marks.items + length l.pending.items
