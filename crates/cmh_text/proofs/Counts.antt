-- How many processes are active, idle and deadlocked.
use Rattle.std.proofs.Common.{◌≡◌, ℕ, ◌+◌, Bool, not, length, refl, arith}
use Rattle.std.specs.Prelude.{count_by, filter}
use Rattle.std.proofs.lemmas.List.Filters.{length-filter_both}
use Rattle.std.proofs.lemmas.List.Sums.{length-filter}
use Rattle.std.proofs.lemmas.List.FromFn.{length-range_with_len}
use Rattle.cmh_graph.specs.Graph.{Graph, process_count, indices, is_idle, idle_list}
use Rattle.cmh_text.specs.Report.{deadlocked_count, counts_line, totals_line}

-- the idle and the active processes together are all
pub active_and_idle : (g : Graph) → length (idle_list g) + count_by (λ p. not (is_idle g p)) (indices g)
    ≡ process_count g
active_and_idle g =
    let is_active : ℕ → Bool = λ p. not (is_idle g p) in
    let active : length (filter is_active (indices g)) ≡ count_by is_active (indices g) = length-filter _ (indices g) in
    let both = length-filter_both (λ p. is_idle g p) is_active (λ _. refl) (indices g) in
    omega (arith, active, both, length-range_with_len 0 (process_count g))

-- the first line has these counts
pub totals_by_counts : (g : Graph) (all active idle deadlocked : ℕ)
    → all ≡ process_count g → idle ≡ length (idle_list g)
    → idle + active ≡ all → deadlocked ≡ deadlocked_count g
    → counts_line all active idle deadlocked ≡ totals_line g
unfolding totals_line
totals_by_counts g all active idle deadlocked all_is idle_is both deadlocked_is =
    let active_is : active ≡ count_by (λ p. not (is_idle g p)) (indices g) = omega (arith, active_and_idle g) in
    rw (active_is, all_is, idle_is, deadlocked_is) refl
