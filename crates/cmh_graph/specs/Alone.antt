-- Which processes are known to be a core by themselves.
use Rattle.std.specs.Prelude.{◌≡◌, ℕ, ◌<◌, Bool, List, [], ◌∷◌, length, slice_index, IsTrue}
use Rattle.cmh_graph.specs.Core.{core_of}
use Rattle.cmh_graph.specs.Graph.{Graph, dependents_of, process_count}
use Rattle.cmh_graph.specs.Search.{is_marked}

-- each marked process is a core by itself
pub record AreAlone (g : Graph) (marks : List Bool) : Type 0 where
  pub size : length marks ≡ process_count g
  pub alone : (p : ℕ) → IsTrue (is_marked marks p) → core_of g p ≡ p ∷ []

-- of each process the first dependents are marked, as many as its entry in `passed` says
pub record ArePassed (g : Graph) (marks : List Bool) (passed : List ℕ) : Type 0 where
  pub size : length passed ≡ process_count g
  pub marked : (p k : ℕ) → k < slice_index passed p
      → IsTrue (is_marked marks (slice_index (dependents_of g p) k))

-- each marked process is a core by itself, and the passed dependents are marked
abbrev pub IsTrimming : Graph → List Bool → List ℕ → Type 0
IsTrimming g marks passed = AreAlone g marks × ArePassed g marks passed
