use Rattle.std.proofs.Common.{◌≡◌, ℕ, [], length}
use Rattle.cmh_graph.specs.Search.{list_at}
use Rattle.cmh_graph.proofs.predecessors.empty_lists.Given as goal

abbrev pub invariant-loop-count : goal.invariant-loop-count
invariant-loop-count l =
    (length l.lists.items ≡ l.count-index) × ((r : ℕ) → list_at l.lists.items r ≡ [])
