use Rattle.std.proofs.Common.{ℕ, ◌<◌, get_or}
use Rattle.cmh_graph.proofs.judge.first_transit_out_of_range.Given as goal

abbrev pub invariant-loop-i : goal.invariant-loop-i
invariant-loop-i l =
    (k : ℕ) → k < l.i → ((get_or l.in_transit k (0, 0)).0 < l.count) × ((get_or l.in_transit k (0, 0)).1 < l.count)
