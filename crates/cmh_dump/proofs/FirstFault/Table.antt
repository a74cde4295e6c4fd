-- What stands in the table of faults, and that it doesn't hold where no fault is found.
use Rattle.std.proofs.Common.{◌≡◌, ℕ, zero, suc, ◌<◌, ◌≤◌, List, [], ◌∷◌, ◌++◌, Bool, true, false, cond, Option, Some, None, map, ◌⊎◌, inl, inr, refl, sym, ap, ◌∙◌, subst, arith}
use Rattle.std.specs.Prelude.{find, flat_map}
use Rattle.std.specs.Option.{option_or}
use Rattle.std.proofs.lemmas.Bool.{cases_lt, false_from_ne_true}
use Rattle.std.proofs.lemmas.List.{append-nil, map-append}
use Rattle.std.proofs.lemmas.List.Concat.{flat_map-append}
use Rattle.std.proofs.lemmas.List.Folds.{find-append}
use Rattle.cmh_dump.specs.declared.fault.DumpFault.{DumpFault}
use Rattle.cmh_dump.specs.Dump.{first_of}
use Rattle.cmh_dump.proofs.FirstFault.Searches.{below, below-last, found_at, none_below}

-- x is an element of the list
abbrev pub Among : {X : Type 0} → X → List X → Type 0
Among x [] = ⊥
Among x (y ∷ ys) = (x ≡ y) ⊎ Among x ys

-- x is an element of one of the lists
abbrev pub AmongLists : {X : Type 0} → X → List (List X) → Type 0
AmongLists x [] = ⊥
AmongLists x (xs ∷ rest) = Among x xs ⊎ AmongLists x rest

-- an element of the first of two lists is one of the two joined
among_left : {X : Type 0} (x : X) (xs ys : List X) → Among x xs → Among x (xs ++ ys)
among_left x [] ys m = absurd m
among_left x (y ∷ xs) ys (inl e) = inl e
among_left x (y ∷ xs) ys (inr m) = inr (among_left x xs ys m)

-- an element of the second of two lists is one of the two joined
among_right : {X : Type 0} (x : X) (xs ys : List X) → Among x ys → Among x (xs ++ ys)
among_right x [] ys m = m
among_right x (y ∷ xs) ys m = inr (among_right x xs ys m)

-- ---- by one number

-- f at n comes last of those below n + 1
map-below : {X : Type 0} (f : ℕ → X) (n : ℕ) → map f (below (suc n)) ≡ map f (below n) ++ f n ∷ []
map-below f n = ap (map f) (below-last n) ∙ map-append f (below n) (n ∷ [])

-- f at a number below n is an element of the list of these
pub among_below : {X : Type 0} (f : ℕ → X) (n i : ℕ) → i < n → Among (f i) (map f (below n))
among_below f zero i l = absurd (omega arith)
among_below f (suc n) i l =
    subst (Among (f i)) (sym (map-below f n)) (by (cases_lt i n) (among_below f n i))
  where
    by : (i < n) ⊎ (n ≤ i) → (i < n → Among (f i) (map f (below n))) → Among (f i) (map f (below n) ++ f n ∷ [])
    by (inl m) h = among_left (f i) (map f (below n)) (f n ∷ []) (h m)
    by (inr m) h = let e : i ≡ n = omega arith in among_right (f i) (map f (below n)) (f n ∷ []) (inl (ap f e))

-- ---- by two numbers, the second below a bound that the first sets

-- the elements that f makes of one first number and of each second one below its bound
abbrev row : {X : Type 0} → (ℕ → ℕ → X) → (ℕ → ℕ) → ℕ → List X
row f m i = map (f i) (below (m i))

-- the row of n comes last of those below n + 1
rows-below : {X : Type 0} (f : ℕ → ℕ → X) (m : ℕ → ℕ) (n : ℕ)
    → flat_map (row f m) (below (suc n)) ≡ flat_map (row f m) (below n) ++ (row f m n ++ [])
rows-below f m n = ap (flat_map (row f m)) (below-last n) ∙ flat_map-append (row f m) (below n) (n ∷ [])

-- f at i below n and at j below the bound of i is an element of the list of all these
pub among_rows : {X : Type 0} (f : ℕ → ℕ → X) (m : ℕ → ℕ) (n i j : ℕ) → i < n → j < m i
    → Among (f i j) (flat_map (row f m) (below n))
among_rows f m zero i j l h = absurd (omega arith)
among_rows f m (suc n) i j l h =
    subst (Among (f i j)) (sym (rows-below f m n))
    (by (cases_lt i n) (λ k. among_rows f m n i j k h))
  where
    by : (i < n) ⊎ (n ≤ i) → (i < n → Among (f i j) (flat_map (row f m) (below n)))
        → Among (f i j) (flat_map (row f m) (below n) ++ (row f m n ++ []))
    by (inl k) r = among_left (f i j) (flat_map (row f m) (below n)) (row f m n ++ []) (r k)
    by (inr k) r =
        let e : i ≡ n = omega arith in
        let here = subst (λ p. Among (f i j) (row f m p)) e (among_below (f i) (m i) j h) in
        among_right (f i j) (flat_map (row f m) (below n)) (row f m n ++ []) (among_left (f i j) (row f m n) [] here)

-- where f holds at no two numbers within the bounds, a search of all finds none
pub no_row : {X : Type 0} (test : X → Bool) (f : ℕ → ℕ → X) (m : ℕ → ℕ) (n : ℕ)
    → ((k l : ℕ) → k < n → l < m k → test (f k l) ≡ true → ⊥) → find test (flat_map (row f m) (below n)) ≡ None
no_row test f m zero none = refl
no_row test f m (suc n) none =
    ap (find test) (rows-below f m n)
    ∙ find-append test (flat_map (row f m) (below n)) (row f m n ++ [])
    ∙ (λ z. option_or (no_row test f m n (λ k l i j. none k l (omega arith) j) z)
    (find test (append-nil (row f m n) z)))
    ∙ none_below test (f n) (m n) (λ l j. false_from_ne_true (test (f n l)) (none n l (omega arith) j))

-- where f holds at i and j, and at no two numbers that come before, a search of all finds f there
pub first_row : {X : Type 0} (test : X → Bool) (f : ℕ → ℕ → X) (m : ℕ → ℕ) (n i j : ℕ) → i < n → j < m i
    → test (f i j) ≡ true
    → ((k l : ℕ) → k < n → l < m k → test (f k l) ≡ true → (i < k) ⊎ ((i ≡ k) × (j ≤ l)))
    → find test (flat_map (row f m) (below n)) ≡ Some (f i j)
first_row test f m zero i j l h t least = absurd (omega arith)
first_row test f m (suc n) i j l h t least =
    let rest = find test (row f m n ++ []) in
    let found : option_or (find test (flat_map (row f m) (below n))) rest ≡ Some (f i j) =
    elim (cases_lt i n) [
      | inl k ↦ ap (λ o. option_or o rest) (first_row test f m n i j k h t (λ k l a b. least k l (omega (arith, a)) b))
      | inr k ↦
          let e : i ≡ n = omega (arith, k, l) in
          let before : (k l : ℕ) → k < n → l < m k → test (f k l) ≡ true → ⊥ =
          λ k l a b u. elim (least k l (omega (arith, a)) b u) [
            | inl c ↦ omega (arith, a, c, e)
            | inr c ↦ omega (arith, a, c.0, e)
          ] in
          let earlier : (l : ℕ) → l < j → test (f i l) ≡ false =
          λ l a. false_from_ne_true (test (f i l))
          (λ u. elim (least i l (omega (arith, e)) (omega (arith, a, h)) u) [
            | inl c ↦ omega (arith, c)
            | inr c ↦ omega (arith, c.1, a)
          ]) in
          (λ z. option_or (no_row test f m n before z) (find test (append-nil (row f m (sym e z)) z)))
          ∙ found_at test (f i) (m i) j h earlier t
    ] in
    ap (find test) (rows-below f m n)
    ∙ find-append test (flat_map (row f m) (below n)) (row f m n ++ []) ∙ found

-- ---- where none is found

-- where a head and the rest behind it have no first, the head fails and the rest has none
neither_head : {X : Type 0} (b : Bool) (x : X) (rest : Option X) → cond b (Some x) rest ≡ None
    → (b ≡ false) × (rest ≡ None)
neither_head true x rest e = absurd cc
neither_head false x rest e = (refl, e)

-- where a list has none that is found, each element fails
pub fails : {X : Type 0} (test : X → Bool) (xs : List X) → find test xs ≡ None → (x : X) → Among x xs → test x ≡ false
fails test [] e x m = absurd m
fails test (y ∷ ys) e x (inl s) = ap test s ∙ (neither_head (test y) y (find test ys) e).0
fails test (y ∷ ys) e x (inr m) = fails test ys (neither_head (test y) y (find test ys) e).1 x m

-- where the first of two that may be there is none, neither is there
pub neither : {X : Type 0} (o p : Option X) → option_or o p ≡ None → (o ≡ None) × (p ≡ None)
neither None p e = (refl, e)
neither (Some x) p e = absurd cc

-- where lists have no first fault, each of their faults fails
pub all_fail : (test : DumpFault → Bool) (lists : List (List DumpFault)) → first_of test lists ≡ None → (x : DumpFault)
    → AmongLists x lists → test x ≡ false
all_fail test [] e x m = absurd m
all_fail test (xs ∷ rest) e x (inl m) = fails test xs (neither (find test xs) (first_of test rest) e).0 x m
all_fail test (xs ∷ rest) e x (inr m) = all_fail test rest (neither (find test xs) (first_of test rest) e).1 x m
