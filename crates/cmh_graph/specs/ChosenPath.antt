-- The chosen path from a process to an awake one.
use Rattle.std.specs.Prelude.{◌≡◌, ℕ, ◌+◌, ◌≤◌, false, List, length, IsTrue, Option, Some, None, option_and_then}
use Rattle.std.specs.List.{reduce}
use Rattle.std.specs.Ordering.{nat_cmp, ord_min, is_lt}
use Rattle.std.specs.Cmp.Lexicographic.{slice_cmp}
use Rattle.cmh_graph.specs.Graph.{Graph, is_awake}
use Rattle.cmh_graph.specs.Path.{IsPath, paths_to, steps_to}

-- the least number of dependencies from p to an awake process
unfoldable pub distance_of : Graph → ℕ → Option ℕ
distance_of g p = steps_to g (is_awake g) p

-- the lesser of two lists, in the order of a dictionary
abbrev pub lesser_path : List ℕ → List ℕ → List ℕ
lesser_path = ord_min (slice_cmp nat_cmp)

-- of the shortest paths from p to an awake process, the least list
unfoldable pub chosen_path : Graph → ℕ → Option (List ℕ)
chosen_path g p =
    option_and_then (λ n. reduce lesser_path (paths_to g (is_awake g) n p)) (distance_of g p)

-- a path from p to an awake process
abbrev pub IsWayOut : Graph → ℕ → List ℕ → Type 0
IsWayOut g p path = (q : ℕ) × IsTrue (is_awake g q) × IsPath g p q path

-- The chosen path in words: a path to an awake process. No other is shorter, and none of the same length is less.
pub record IsChosenPath (g : Graph) (p : ℕ) (path : List ℕ) : Type 0 where
  pub awake : IsWayOut g p path
  pub shortest : (other : List ℕ) → IsWayOut g p other → length path ≤ length other
  pub least : (other : List ℕ) → IsWayOut g p other → length other ≡ length path
      → is_lt (slice_cmp nat_cmp other path) ≡ false

-- The distance n in words: a path of n dependencies leads from p to an awake process, and no shorter one does. A path
-- has one process more than dependencies. Without a distance no path leads to an awake process.
abbrev pub IsDistance : Graph → ℕ → Option ℕ → Type 0
IsDistance g p (Some n) = ((path : List ℕ) × IsWayOut g p path × (length path ≡ n + 1))
    × ((other : List ℕ) → IsWayOut g p other → n + 1 ≤ length other)
IsDistance g p None = (path : List ℕ) → IsWayOut g p path → ⊥
