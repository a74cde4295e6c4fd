-- What the searches over a graph keep, and what they make.
use Rattle.std.specs.Prelude.{◌≡◌, ◌≢◌, ◌≤◌, ◌⊎◌, ◌+◌, ℕ, Bool, false, not, count_by, List, [], map, length, slice_index_or, Contains, IsSome, IsTrue, Option, Some, None}
use Rattle.std.specs.Global.{Vec}
use Rattle.cmh_graph.specs.Graph.{Graph, Depends, process_count}
use Rattle.cmh_graph.specs.Path.{Reaches}

-- whether the place is marked; none is past the end
abbrev pub is_marked : List Bool → ℕ → Bool
is_marked marks p = slice_index_or marks p false

-- the list at that place; past the end it is empty
abbrev pub list_at : List (Vec ℕ) → ℕ → List ℕ
list_at lists r = slice_index_or (map (λ v. v.items) lists) r []

-- the number at that place, where there is one
abbrev pub number_at : List (Option ℕ) → ℕ → Option ℕ
number_at numbers p = slice_index_or numbers p None

-- p has joined the list of each of these places, and nothing else has changed
pub record JoinsEach (p : ℕ) (places : List ℕ) (old new : List (Vec ℕ)) : Type 0 where
  pub size : length new ≡ length old
  pub kept : (r q : ℕ) → Contains (list_at old r) q → Contains (list_at new r) q
  pub joined : (r : ℕ) → Contains places r → Contains (list_at new r) p
  pub only : (r q : ℕ) → Contains (list_at new r) q
      → Contains (list_at old r) q ⊎ ((q ≡ p) × Contains places r)

-- the list of predecessors at that place; past the end it is empty
abbrev pub predecessors_at : List (List ℕ) → ℕ → List ℕ
predecessors_at lists r = slice_index_or lists r []

-- p is on the list of r just where it depends on r
pub record ArePredecessors (g : Graph) (lists : List (List ℕ)) : Type 0 where
  pub size : length lists ≡ process_count g
  pub sound : (p r : ℕ) → Contains (predecessors_at lists r) p → Depends g p r
  pub complete : (p r : ℕ) → Depends g p r → Contains (predecessors_at lists r) p

-- p is a predecessor of a member of the level
abbrev pub IsNamedBy : List (List ℕ) → List ℕ → ℕ → Type 0
IsNamedBy lists level p = (q : ℕ) × Contains level q × Contains (predecessors_at lists q) p

-- Each named place that had no number has this one now, and has joined the list of places. Nothing else has changed.
pub record Numbers (IsNamed : ℕ → Type 0) (n : ℕ) (old new : List (Option ℕ))
    (before after : List ℕ) : Type 0 where
  pub size : length new ≡ length old
  pub kept : (p d : ℕ) → number_at old p ≡ Some d → number_at new p ≡ Some d
  pub named : (p : ℕ) → IsNamed p → IsSome (number_at new p)
  pub made : (p d : ℕ) → number_at old p ≡ None → number_at new p ≡ Some d
      → (d ≡ n) × IsNamed p × Contains after p
  pub stays : (p : ℕ) → Contains before p → Contains after p
  pub only : (p : ℕ) → Contains after p
      → Contains before p ⊎ ((number_at old p ≡ None) × (number_at new p ≡ Some n))

-- how many places aren't marked
abbrev pub unmarked_count : List Bool → ℕ
unmarked_count marks = count_by (λ mark. not mark) marks

-- Each place of the list is marked now, and those that weren't have become pending. Nothing else has changed.
pub record MarksEach (list : List ℕ) (old new : List Bool) (before after : List ℕ) : Type 0 where
  pub size : length new ≡ length old
  pub kept : (p : ℕ) → IsTrue (is_marked old p) → IsTrue (is_marked new p)
  pub marked : (p : ℕ) → Contains list p → IsTrue (is_marked new p)
  pub made : (p : ℕ) → IsTrue (is_marked new p)
      → IsTrue (is_marked old p) ⊎ (Contains list p × Contains after p)
  pub stays : (p : ℕ) → Contains before p → Contains after p
  pub only : (p : ℕ) → Contains after p → Contains before p ⊎ IsTrue (is_marked new p)
  pub count : unmarked_count new + length after ≡ unmarked_count old + length before

-- The least member of the list that has this number, or none where no member has it.
abbrev pub IsLeastAt : ℕ → List ℕ → List (Option ℕ) → Option ℕ → Type 0
IsLeastAt n list numbers None = (q : ℕ) → Contains list q → number_at numbers q ≢ Some n
IsLeastAt n list numbers (Some least) =
    Contains list least × (number_at numbers least ≡ Some n)
    × ((q : ℕ) → Contains list q → number_at numbers q ≡ Some n → least ≤ q)

-- The marked processes are ones that p reaches, p itself among them. Each is pending, or all of its dependencies are
-- marked.
pub record SpreadsFrom (g : Graph) (p : ℕ) (marks : List Bool) (pending : List ℕ) : Type 0 where
  pub size : length marks ≡ process_count g
  pub start : IsTrue (is_marked marks p)
  pub sound : (q : ℕ) → IsTrue (is_marked marks q) → Reaches g p q
  pub pending_marked : (q : ℕ) → Contains pending q → IsTrue (is_marked marks q)
  pub closed : (q : ℕ) → IsTrue (is_marked marks q)
      → Contains pending q ⊎ ((r : ℕ) → Depends g q r → IsTrue (is_marked marks r))
