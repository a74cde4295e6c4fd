-- Distinct processes, and what a test keeps of a list.
use Rattle.std.proofs.Common.{◌≡◌, ℕ, ◌≤◌, Bool, false, cond, eqb, List, [], ◌∷◌, length, refl, arith}
use Rattle.std.specs.Prelude.{Contains, filter}
use Rattle.std.specs.List.{IsDistinct}
use Rattle.std.proofs.lemmas.Bool.{eqb-false}
use Rattle.std.proofs.lemmas.List.Elements.{All-contains, All-from_recursion, recursion_from_All, All-filter}
use Rattle.std.proofs.lemmas.List.Sums.{length-filter, count_by-le-length}
use Rattle.std.proofs.lemmas.Map.Keys.{IsDistinct-head}
use Rattle.cmh_graph.proofs.Verdicts.{by_test}

-- q is another process than p
abbrev Differs : ℕ → ℕ → Type 0
Differs p q = eqb p q ≡ false

-- a list of one process has distinct processes
pub one_is_distinct : (p : ℕ) → IsDistinct eqb (p ∷ [])
unfolding IsDistinct
one_is_distinct p = (tt, tt)

-- the first of distinct processes isn't among the others
pub first_once : (p : ℕ) (ps : List ℕ) → IsDistinct eqb (p ∷ ps) → Contains ps p → ⊥
first_once p ps d c =
    let others = All-from_recursion (Differs p) ps (IsDistinct-head eqb p ps d) in
    eqb-false p p (All-contains (Differs p) ps p others c) refl

-- of distinct processes those that a test keeps are distinct
pub distinct-filter : (f : ℕ → Bool) (ps : List ℕ) → IsDistinct eqb ps → IsDistinct eqb (filter f ps)
unfolding IsDistinct
distinct-filter f [] d = tt
distinct-filter f (p ∷ ps) d =
    let others = All-from_recursion (Differs p) ps (IsDistinct-head eqb p ps d) in
    let rest = distinct-filter f ps d.1 in
    by_test (f p) (λ b. IsDistinct eqb (cond b (p ∷ filter f ps) (filter f ps)))
    (λ yes. (recursion_from_All (Differs p) (filter f ps) (All-filter f (Differs p) ps others), rest))
    (λ no. rest)

-- a test keeps no more of a list than was in it
pub length-filter-le : (f : ℕ → Bool) (ps : List ℕ) → length (filter f ps) ≤ length ps
length-filter-le f ps = omega (arith, length-filter f ps, count_by-le-length f ps)
