-- Paths along dependencies, and what they reach.
use Rattle.std.specs.Prelude.{◌≡◌, ℕ, zero, suc, Bool, true, false, ◌==◌, List, [], ◌∷◌, map, if◌then◌else◌, is_some, filter, find, flat_map, Option}
use Rattle.cmh_graph.specs.Graph.{Graph, Depends, dependencies_of, indices}

-- From p the processes of the list lead to q: the first is a dependency of p, each next one is a dependency of the one
-- before it, and the last is q.
abbrev pub Leads : Graph → ℕ → List ℕ → ℕ → Type 0
Leads g p [] q = p ≡ q
Leads g p (r ∷ rest) q = Depends g p r × Leads g r rest q

-- a path from p to q: p, and then processes that lead from it to q
abbrev pub IsPath : Graph → ℕ → ℕ → List ℕ → Type 0
IsPath g p q [] = ⊥
IsPath g p q (x ∷ rest) = (x ≡ p) × Leads g p rest q

-- there is a path from p to q
abbrev pub Reaches : Graph → ℕ → ℕ → Type 0
Reaches g p q = (path : List ℕ) × IsPath g p q path

-- all paths of n dependencies from p to a process that passes the test
abbrev pub paths_to : Graph → (ℕ → Bool) → ℕ → ℕ → List (List ℕ)
paths_to g test zero p = if test p then (p ∷ []) ∷ [] else []
paths_to g test (suc n) p =
    flat_map (λ r. map (λ path. p ∷ path) (paths_to g test n r)) (dependencies_of g p)

-- the list of paths is not empty
abbrev pub is_nonempty : List (List ℕ) → Bool
is_nonempty [] = false
is_nonempty (path ∷ paths) = true

-- The least number of dependencies from p to a process that passes the test. A shortest path passes no process twice,
-- so it has fewer dependencies than the graph has processes.
abbrev pub steps_to : Graph → (ℕ → Bool) → ℕ → Option ℕ
steps_to g test p = find (λ n. is_nonempty (paths_to g test n p)) (indices g)

-- the test of `Reaches`
unfoldable pub reaches : Graph → ℕ → ℕ → Bool
reaches g p q = is_some (steps_to g (λ r. r == q) p)

-- the processes that p reaches, p itself among them, by rising index
abbrev pub reach_of : Graph → ℕ → List ℕ
reach_of g p = filter (reaches g p) (indices g)
