use Rattle.std.proofs.Common.{◌+◌, length}
use Rattle.cmh_graph.specs.Search.{unmarked_count}
use Rattle.cmh_graph.proofs.ListedSearch.{ListsFrom}
use Rattle.cmh_graph.proofs.graph.WaitGraph.reach_from.Given as goal

abbrev pub invariant-loop-q : goal.invariant-loop-q
invariant-loop-q l = ListsFrom l.self l.p l.marks.items l.pending.items l.list.items

abbrev pub decreases-loop-q : goal.decreases-loop-q
decreases-loop-q l = unmarked_count l.marks.items + length l.pending.items
