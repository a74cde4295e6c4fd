-- What a worker knows of the leaders of processes.
use Rattle.std.specs.Prelude.{◌≡◌, ◌⊎◌, ℕ, Bool, false, List, length, slice_index_or, Contains, Option, Some, None}
use Rattle.cmh_graph.specs.Core.{core_of, leader_of}
use Rattle.cmh_graph.specs.Graph.{Graph, process_count}

-- the leader that stands at that place, where there is one
abbrev pub leader_at : List (Option ℕ) → ℕ → Option ℕ
leader_at list p = slice_index_or list p None

-- the table has a place for each process, and what stands there is its leader
pub record KnowsLeaders (g : Graph) (list : List (Option ℕ)) : Type 0 where
  pub size : length list ≡ process_count g
  pub leads : (p leader : ℕ) → leader_at list p ≡ Some leader → leader ≡ leader_of g p

-- where no leader of p stood in the table, and p isn't marked as a core alone, all of p's core have their leader there
-- now
abbrev pub KeepsCore : Graph → ℕ → List Bool → List (Option ℕ) → List (Option ℕ) → Type 0
KeepsCore g p alone old new = leader_at old p ≡ None → slice_index_or alone p false ≡ false
    → (q : ℕ) → Contains (core_of g p) q → leader_at new q ≡ Some (leader_of g p)

-- each member has this leader now, and no other process has got one
pub record LeadsEach (leader : ℕ) (members : List ℕ) (old new : List (Option ℕ)) : Type 0 where
  pub size : length new ≡ length old
  pub led : (p : ℕ) → Contains members p → leader_at new p ≡ Some leader
  pub only : (p l : ℕ) → leader_at new p ≡ Some l
      → (leader_at old p ≡ Some l) ⊎ ((l ≡ leader) × Contains members p)
