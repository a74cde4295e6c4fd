-- Reaches and rests hold processes of the graph.
use Rattle.std.proofs.Common.{◌≡◌, ℕ, ◌<◌, not, List, get_or, refl, sym, subst, arith}
use Rattle.std.specs.Prelude.{All, Contains}
use Rattle.std.proofs.lemmas.List.{get_or_default}
use Rattle.std.proofs.lemmas.List.Elements.{All-filter}
use Rattle.cmh_graph.specs.Graph.{Graph, process_count, indices}
use Rattle.cmh_graph.specs.Path.{reaches, reach_of}
use Rattle.cmh_graph.specs.Core.{rest_of}
use Rattle.cmh_graph.proofs.PathLemmas.{index_within}
use Rattle.cmh_graph.proofs.Verdicts.{filter_contains}

-- members of a reach are processes of the graph
pub reach_within : (g : Graph) (p size : ℕ) (xs : List ℕ) → xs ≡ reach_of g p → size ≡ process_count g
    → All (λ q. q < size) xs
reach_within g p size xs is full k d l =
    let there : Contains (reach_of g p) (get_or xs k d) =
    subst (λ ys. Contains ys (get_or xs k d)) is (k, l, get_or_default xs k (get_or xs k d) d l) in
    omega (
      arith,
      index_within (process_count g) (get_or xs k d)
          (filter_contains (reaches g p) (indices g) (get_or xs k d) there).0,
    )

-- members of a rest are processes of the graph
pub rest_within : (g : Graph) (p : ℕ) (xs : List ℕ) → xs ≡ rest_of g p → All (λ q. q < process_count g) xs
rest_within g p xs is =
    subst (All (λ q. q < process_count g)) (sym is)
    (All-filter (λ q. not (reaches g q p)) (λ q. q < process_count g) (reach_of g p)
    (reach_within g p (process_count g) (reach_of g p) refl refl))
