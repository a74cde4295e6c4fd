-- Cores.
use Rattle.std.specs.Prelude.{ℕ, ◌<◌, ◌↔◌, Contains}
use Rattle.cmh_graph.specs.Core.{core_of}
use Rattle.cmh_graph.specs.Graph.{process_count, indices, Graph, IsWithinGraph}
use Rattle.cmh_graph.specs.Path.{reaches, reach_of, Reaches}
use Rattle.cmh_graph.proofs.PathLemmas.{reaches_then, then_reaches, contains_index}
use Rattle.cmh_graph.proofs.Verdicts.{contains_filter, reached_within, filter_contains}

-- q is in p's core just where each reaches the other
pub core_law : (g : Graph) (p q : ℕ) → IsWithinGraph g → p < process_count g
    → Contains (core_of g p) q ↔ (Reaches g p q × Reaches g q p)
core_law = λ g p q w i. (
  λ c. let outer = filter_contains (λ r. reaches g r p) (reach_of g p) q c in
      let inner = filter_contains (reaches g p) (indices g) q outer.0 in
      (reaches_then g p q inner.1, reaches_then g q p outer.1),
  λ both. let j = reached_within g w p q i both.0 in
      contains_filter (λ r. reaches g r p) (reach_of g p) q
      (contains_filter (reaches g p) (indices g) q (contains_index (process_count g) q j)
      (then_reaches g p q w i both.0))
      (then_reaches g q p w j both.1),
)
