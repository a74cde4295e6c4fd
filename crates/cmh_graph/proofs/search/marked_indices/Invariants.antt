use Rattle.std.proofs.Common.{◌≡◌}
use Rattle.std.specs.Prelude.{filter}
use Rattle.std.specs.List.{range_with_len}
use Rattle.cmh_graph.specs.Search.{is_marked}
use Rattle.cmh_graph.proofs.search.marked_indices.Given as goal

abbrev pub invariant-loop-p : goal.invariant-loop-p
invariant-loop-p l = l.list.items ≡ filter (is_marked l.marks) (range_with_len 0 l.p)
