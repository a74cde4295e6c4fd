use Rattle.std.proofs.Common.{take}
use Rattle.cmh_graph.specs.Search.{MarksEach}
use Rattle.cmh_graph.proofs.search.mark_each.Given as goal

abbrev pub invariant-loop-p : goal.invariant-loop-p
invariant-loop-p l = MarksEach (take l.p-index l.list) l.initial.marks l.marks l.initial.pending.items l.pending.items
