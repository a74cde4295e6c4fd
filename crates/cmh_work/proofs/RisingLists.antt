-- Two rising lists that weigh the same are the same.
use Rattle.std.proofs.Common.{◌≡◌, ℕ, zero, suc, ◌<◌, ◌≤◌, Bool, true, false, ltb, List, [], ◌∷◌, length, map, get_or, sym, refl, ap, ◌∙◌, arith}
use Rattle.std.proofs.lemmas.Bool.{le-ltb, ltb-false}
use Rattle.std.specs.Prelude.{AllPairs}
use Rattle.std.proofs.lemmas.List.Kept.{AllPairs-filter, AllPairs-from_increasing}
use Rattle.cmh_graph.specs.Graph.{Graph, process_count, indices, is_idle, idle_list}
use Rattle.cmh_graph.proofs.Groups.{indices_rise}
use Rattle.std.specs.List.Sorted.{IsNonDecreasingBy, IsPermutation}
use Rattle.std.proofs.lemmas.List.Sorted.{sum_by-IsPermutation}
use Rattle.cmh_rw.specs.History.{bit}
use Rattle.cmh_rw.specs.Machine.{total}
use Rattle.cmh_plan.proofs.DrawnNumbers.{total-sum_by}

-- no number is less than x
abbrev pub AllFrom : ℕ → List ℕ → Type 0
AllFrom x [] = Unit {0}
AllFrom x (y ∷ ys) = (x ≤ y) × AllFrom x ys

-- no number is less than one before it
abbrev pub Rises : List ℕ → Type 0
Rises [] = Unit {0}
Rises (x ∷ xs) = AllFrom x xs × Rises xs

-- of numbers that are no less than x, none is below a bound up to x
low_none : (x z : ℕ) (xs : List ℕ) → AllFrom x xs → z ≤ x → total (λ k. bit (ltb k z)) xs ≡ 0
low_none x z [] all le = refl
low_none x z (y ∷ ys) all le = let r = low_none x z ys all.1 le in let a = all.0 in let b =
    ap bit (le-ltb y z (omega arith)) in omega arith

-- a number that a test doesn't find below the bound is above it
not_low : (x y : ℕ) (b : Bool) → ltb x y ≡ b → bit b ≡ 0 → y ≤ x
not_low x y true e z = absurd (omega arith)
not_low x y false e z = ltb-false x y e

-- the first of two rising lists that weigh the same is no less than the other's
first_least : (x : ℕ) (xs : List ℕ) (y : ℕ) (ys : List ℕ) → AllFrom y ys
    → ((h : ℕ → ℕ) → total h (x ∷ xs) ≡ total h (y ∷ ys)) → y ≤ x
first_least x xs y ys up same = let h : ℕ → ℕ = λ k. bit (ltb k y) in let a =
    low_none y y ys up (omega arith) in let b = ap bit (le-ltb y y (omega arith)) in let c = same h in
    not_low x y (ltb x y) refl (omega arith)

-- two rising lists that weigh the same are the same
pub same_rising : (xs ys : List ℕ) → Rises xs → Rises ys → ((h : ℕ → ℕ) → total h xs ≡ total h ys) → xs ≡ ys
same_rising [] [] up up' same = refl
same_rising [] (y ∷ ys) up up' same = let e = same (λ _. 1) in absurd (omega arith)
same_rising (x ∷ xs) [] up up' same = let e = same (λ _. 1) in absurd (omega arith)
same_rising (x ∷ xs) (y ∷ ys) up up' same = let a = first_least x xs y ys up'.0 same in let b =
    first_least y ys x xs up.0 (λ h. sym (same h)) in let e : x ≡ y = omega arith in
    let rest = same_rising xs ys up.1 up'.1 (λ h. let w = same h in let f = ap h e in omega arith) in λ k. e k ∷ rest k

-- where x is no greater than any number of a list, no number of it is less than x
all_above : (x : ℕ) (xs : List ℕ) → ((k d : ℕ) → k < length xs → x ≤ get_or xs k d) → AllFrom x xs
all_above x [] h = tt
all_above x (y ∷ ys) h = (h 0 y (omega arith), all_above x ys (λ k d low. h (suc k) d (omega arith)))

-- numbers each of which is less than those after it rise
rises_pairs : (xs : List ℕ) → AllPairs (λ x y. x < y) xs → Rises xs
rises_pairs [] h = tt
rises_pairs (x ∷ xs) h = (
  all_above x xs (λ k d low. le-from-lt x xs k d (h 0 (suc k) d (omega arith) (omega arith))),
  rises_pairs xs (λ i j d low within. h (suc i) (suc j) d (omega arith) (omega arith)),
)
  where
    le-from-lt : (x : ℕ) (xs : List ℕ) (k d : ℕ) → x < get_or xs k d → x ≤ get_or xs k d
    le-from-lt x xs k d l = omega arith

module _ {X : Type 0} where
  all_from : (f : X → ℕ) (x : X) (xs : List X) → ((j : ℕ) (d : X) → j < length xs → f x ≤ f (get_or xs j d))
      → AllFrom (f x) (map f xs)
  all_from f x [] h = tt
  all_from f x (y ∷ ys) h = (h zero y (omega arith), all_from f x ys (λ j d low. h (suc j) d (omega arith)))

  -- a list that is sorted by a number has rising numbers
  rises_by : (f : X → ℕ) (xs : List X) → IsNonDecreasingBy f xs → Rises (map f xs)
  rises_by f [] h = tt
  rises_by f (x ∷ xs) h = (
    all_from f x xs (λ j d low. h zero (suc j) d (omega arith) (omega arith)),
    rises_by f xs (λ i j d le low. h (suc i) (suc j) d (omega arith) (omega arith)),
  )

  -- the total of a mapped list is that of the list by what each is mapped to
  total-map : (h : ℕ → ℕ) (f : X → ℕ) (xs : List X) → total h (map f xs) ≡ total (λ x. h (f x)) xs
  total-map h f [] = refl
  total-map h f (x ∷ xs) = omega (arith, total-map h f xs)

  -- the order is of no matter for a total
  total-permutation : (f : X → ℕ) (xs ys : List X) → IsPermutation xs ys → total f ys ≡ total f xs
  total-permutation f xs ys p = total-sum_by f ys ∙ sum_by-IsPermutation f xs ys p ∙ sym (total-sum_by f xs)

  -- sorted by a number, a list has the numbers of a rising list that weighs the same
  pub sorted_same : (f : X → ℕ) (xs ys : List X) (zs : List ℕ) → IsPermutation xs ys → IsNonDecreasingBy f ys → Rises zs
      → ((h : ℕ → ℕ) → total h (map f xs) ≡ total h zs) → map f ys ≡ zs
  sorted_same f xs ys zs p up up' same = same_rising (map f ys) zs (rises_by f ys up) up'
      (λ h. total-map h f ys ∙ total-permutation (λ x. h (f x)) xs ys p ∙ sym (total-map h f xs) ∙ same h)

-- the list of the idle processes rises
pub rises_from : (g : Graph) → Rises (idle_list g)
rises_from g =
    rises_pairs (idle_list g) (AllPairs-filter (λ x y. x < y) (is_idle g) (indices g)
    (AllPairs-from_increasing (indices g) (indices_rise (process_count g))))
