use Rattle.std.proofs.Common.{take}
use Rattle.std.specs.Prelude.{filter}
use Rattle.cmh_graph.specs.Search.{is_marked, MarksEach}
use Rattle.cmh_graph.proofs.search.mark_each_within.Given as goal

abbrev pub invariant-loop-p : goal.invariant-loop-p
invariant-loop-p l =
    MarksEach
    (filter (is_marked l.inside) (take l.p-index l.list)) l.initial.marks l.marks l.initial.pending.items
    l.pending.items
