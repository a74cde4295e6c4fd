-- How often a number stands in a list.
use Rattle.cmh_run.proofs.Common.{◌≡◌, ℕ, zero, suc, ◌+◌, ◌<◌, ◌≤◌, Bool, false, cond, eqb, List, [], ◌∷◌, length, Contains, refl, sym, arith, eq-eqb, ne_eqb, cases_eq, inl, inr}
use Rattle.std.proofs.lemmas.Bool.Decides.{nat_tests}
use Rattle.std.specs.List.{AllByRecursion, IsDistinct}

abbrev pub one_if : Bool → ℕ
one_if b = cond b 1 0

abbrev pub tally : ℕ → List ℕ → ℕ
tally r [] = 0
tally r (y ∷ ys) = one_if (eqb y r) + tally r ys

-- the list without the first r
abbrev pub without_one : ℕ → List ℕ → List ℕ
without_one r [] = []
without_one r (y ∷ ys) = cond (eqb y r) ys (y ∷ without_one r ys)

-- a process stands in a list at most as often as the list is long
pub tally-le-length : (r : ℕ) (ys : List ℕ) → tally r ys ≤ length ys
tally-le-length r [] = omega arith
tally-le-length r (y ∷ ys) = grind (arith, tally-le-length r ys)

-- without one r that stood in it the list is shorter by one
pub length-without_one : (r : ℕ) (ys : List ℕ) → 0 < tally r ys → length (without_one r ys) + 1 ≡ length ys
length-without_one r [] h = omega arith
length-without_one r (y ∷ ys) h = grind (arith, length-without_one r ys)

-- without one r, r stands in the list once less, and any other as often as before
pub tally-without_one : (r x : ℕ) (ys : List ℕ) → 0 < tally r ys
    → tally x (without_one r ys) + one_if (eqb r x) ≡ tally x ys
tally-without_one r x [] h = omega arith
tally-without_one r x (y ∷ ys) h = grind (arith, nat_tests, tally-without_one r x ys)

-- in a list that isn't empty some process stands
pub some_tally : (ys : List ℕ) → 0 < length ys → (r : ℕ) × (0 < tally r ys)
some_tally [] h = absurd (omega arith)
some_tally (y ∷ ys) h = (y, rw (eq-eqb y y refl) (omega arith))

-- what the list contains stands in it at least once
pub tally_from_contains : (r : ℕ) (ys : List ℕ) → Contains ys r → 0 < tally r ys
tally_from_contains r [] c = absurd (omega (arith, c.1))
tally_from_contains r (y ∷ ys) (zero, w, e) = rw (eq-eqb y r e) (omega arith)
tally_from_contains r (y ∷ ys) (suc k, w, e) = omega (arith, tally_from_contains r ys (k, omega arith, e))

-- what stands in the list at least once, it contains
pub contains_from_tally : (r : ℕ) (ys : List ℕ) → 0 < tally r ys → Contains ys r
contains_from_tally r [] h = absurd (omega arith)
contains_from_tally r (y ∷ ys) h = elim (cases_eq y r) [
  | inl e ↦ (0, omega arith, e)
  | inr w ↦
      let c = contains_from_tally r ys (omega (arith, rw (ne_eqb y r w) at h)) in
      (suc c.0, omega (arith, c.1), c.2)
]

-- a process that doesn't stand in the list is none of it
none_equal : (y : ℕ) (ys : List ℕ) → tally y ys ≡ 0 → AllByRecursion (λ z. eqb y z ≡ false) ys
none_equal y [] h = tt
none_equal y (z ∷ zs) h = (
  ne_eqb y z (λ e. absurd (omega (arith, rw (eq-eqb z y (sym e)) at h))),
  none_equal y zs (omega (arith, h)),
)

-- where each process stands at most once, they are distinct
pub distinct : (ys : List ℕ) → ((k : ℕ) → tally k ys ≤ 1) → IsDistinct eqb ys
unfolding IsDistinct
distinct [] few = tt
distinct (y ∷ ys) few = (
  none_equal y ys (omega (arith, rw (eq-eqb y y refl) at (few y))),
  distinct ys (λ x. omega (arith, few x)),
)
