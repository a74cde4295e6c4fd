-- Searches: of f at the numbers below n, of a list by numbers, and of rows by two numbers.
use Rattle.std.proofs.Common.{◌≡◌, ℕ, zero, suc, ◌+◌, ◌-◌, ◌<◌, List, [], ◌∷◌, ◌++◌, Bool, true, false, cond, Option, Some, None, map, length, refl, sym, ap, ◌∙◌, arith, map-id}
use Rattle.std.specs.Prelude.{find, position, flat_map, slice_get, option_map}
use Rattle.std.specs.List.{range_with_len, position_from}
use Rattle.std.specs.Option.{option_or}
use Rattle.std.proofs.lemmas.Iterator.Adapters.{position_from-zero}
use Rattle.std.proofs.lemmas.List.{map-append}
use Rattle.std.proofs.lemmas.List.Folds.{find-append}
use Rattle.cmh_dump.specs.Read.{first_pair}

-- the numbers from 0 to n - 1
abbrev pub below : ℕ → List ℕ
below n = range_with_len 0 n

-- a range with one number more ends with it
range-last : (a n : ℕ) → range_with_len a (suc n) ≡ range_with_len a n ++ (a + n) ∷ []
range-last a zero = ap (λ b. b ∷ []) (omega arith)
range-last a (suc n) =
    let next : a + 1 + n ≡ a + suc n = omega arith in
    ap (λ ns. a ∷ ns) (range-last (a + 1) n) ∙ ap (λ b. a ∷ range_with_len (a + 1) n ++ b ∷ []) next

-- the last of those below n + 1 is n
pub below-last : (n : ℕ) → below (suc n) ≡ below n ++ n ∷ []
below-last n =
    let start : 0 + n ≡ n = omega arith in
    range-last 0 n ∙ ap (λ b. below n ++ b ∷ []) start

module _ {X : Type 0} (test : X → Bool) where
  -- a search of f at the numbers below n + 1 asks f at n last
  last_of : (f : ℕ → X) (n : ℕ)
      → find test (map f (below (suc n)))
      ≡ option_or (find test (map f (below n))) (cond (test (f n)) (Some (f n)) None)
  last_of f n =
      ap (λ ns. find test (map f ns)) (below-last n)
      ∙ ap (find test) (map-append f (below n) (n ∷ [])) ∙ find-append test (map f (below n)) (f n ∷ [])

  -- where none of those below n passes, none is found
  pub none_below : (f : ℕ → X) (n : ℕ) → ((k : ℕ) → k < n → test (f k) ≡ false) → find test (map f (below n)) ≡ None
  none_below f zero h = refl
  none_below f (suc n) h =
      last_of f n
      ∙ ap (λ o. option_or o (cond (test (f n)) (Some (f n)) None)) (none_below f n (λ k lt. h k (omega arith)))
      ∙ ap (λ b. cond b (Some (f n)) None) (h n (omega arith))

  -- where f passes at i and at no number before, a search of f at more numbers than i finds it at i
  found_below : (f : ℕ → X) (i m : ℕ) → ((k : ℕ) → k < i → test (f k) ≡ false) → test (f i) ≡ true
      → find test (map f (below (suc i + m))) ≡ Some (f i)
  found_below f i zero h t =
      ap (λ n. find test (map f (below n))) same ∙ last_of f i
      ∙ ap (λ o. option_or o (cond (test (f i)) (Some (f i)) None)) (none_below f i h)
      ∙ ap (λ b. cond b (Some (f i)) None) t
    where
      same : suc i + 0 ≡ suc i
      same = omega arith
  found_below f i (suc m) h t =
      ap (λ n. find test (map f (below n))) same ∙ last_of f (suc i + m)
      ∙ ap (λ o. option_or o (cond (test (f (suc i + m))) (Some (f (suc i + m))) None)) (found_below f i m h t)
    where
      same : suc i + suc m ≡ suc (suc i + m)
      same = omega arith

-- where f passes at i below n and at no number before, a search of f at the numbers below n finds it at i
pub found_at : {X : Type 0} (test : X → Bool) (f : ℕ → X) (n i : ℕ) → i < n → ((k : ℕ) → k < i → test (f k) ≡ false)
    → test (f i) ≡ true → find test (map f (below n)) ≡ Some (f i)
found_at test f n i lt before now =
    let e : suc i + (n - suc i) ≡ n = omega arith in
    ap (λ m. find test (map f (below m))) (sym e) ∙ found_below test f i (n - suc i) before now

-- where i below n passes and no number before it does, a search of the numbers below n finds i
pub least_found : (test : ℕ → Bool) (n i : ℕ) → i < n → ((k : ℕ) → k < i → test k ≡ false) → test i ≡ true
    → find test (below n) ≡ Some i
least_found test n i lt before now =
    ap (find test) (sym (map-id (below n))) ∙ found_at test (λ k. k) n i lt before now

-- where no number below n passes, a search of them finds none
pub none_found : (test : ℕ → Bool) (n : ℕ) → ((k : ℕ) → k < n → test k ≡ false) → find test (below n) ≡ None
none_found test n h = ap (find test) (sym (map-id (below n))) ∙ none_below test (λ k. k) n h

-- ---- a list, and rows of lists

-- where an element is read at a place, what a function makes of it is read there in the mapped list
pub get-map : {Y Z : Type 0} (f : Y → Z) (ys : List Y) (k : ℕ) (y : Y) → slice_get ys k ≡ Some y
    → slice_get (map f ys) k ≡ Some (f y)
get-map f [] k y e = absurd cc
get-map f (x ∷ xs) zero y e = ap (option_map f) e
get-map f (x ∷ xs) (suc k) y e = get-map f xs k y e

-- ---- one index

module _ {X : Type 0} (test : X → Bool) where
  -- one step of two searches, of a list and of its faults by number, keeps them together
  one_by : (b c : Bool) (x : X) (F : ℕ → X) (a : ℕ) (o : Option ℕ) (r : Option X) → b ≡ c → x ≡ F a → r ≡ option_map F o
      → cond b (Some x) r ≡ option_map F (cond c (Some a) o)
  one_by true true x F a o r e s h = ap Some s
  one_by true false x F a o r e s h = absurd cc
  one_by false true x F a o r e s h = absurd cc
  one_by false false x F a o r e s h = h

  -- faults by number, from a on, are searched as the list is
  each_from : {Y : Type 0} (F : ℕ → X) (bad : Y → Bool) (ys : List Y) (a : ℕ)
      → ((k : ℕ) (y : Y) → slice_get ys k ≡ Some y → test (F (a + k)) ≡ bad y)
      → find test (map F (range_with_len a (length ys))) ≡ option_map F (position_from bad a ys)
  each_from F bad [] a h = refl
  each_from F bad (y ∷ ys) a h =
      let here : a ≡ a + 0 = omega arith in
      one_by (test (F a)) (bad y) (F a) F a (position_from bad (a + 1) ys)
      (find test (map F (range_with_len (a + 1) (length ys))))
      (ap (λ b. test (F b)) here ∙ h 0 y refl) refl
      (each_from F bad ys (a + 1)
      (λ k z e. let next : a + 1 + k ≡ a + suc k = omega arith in ap (λ b. test (F b)) next ∙ h (suc k) z e))

  -- the first fault of a kind stands where the list is first bad
  each_position : {Y : Type 0} (F : ℕ → X) (bad : Y → Bool) (ys : List Y)
      → ((k : ℕ) (y : Y) → slice_get ys k ≡ Some y → test (F k) ≡ bad y)
      → find test (map F (below (length ys))) ≡ option_map F (position bad ys)
  each_position F bad ys h =
      each_from F bad ys 0 (λ k y e. let start : 0 + k ≡ k = omega arith in ap (λ b. test (F b)) start ∙ h k y e)
      ∙ ap (option_map F) (sym (position_from-zero bad ys))

  -- the first fault of a kind stands where a list is first bad by what its elements are seen as
  pub each_seen : {Y Z : Type 0} (F : ℕ → X) (f : Y → Z) (bad : Z → Bool) (ys : List Y) (n : ℕ) → n ≡ length ys
      → ((k : ℕ) (z : Z) → slice_get (map f ys) k ≡ Some z → test (F k) ≡ bad z)
      → find test (map F (below n)) ≡ option_map F (position (λ y. bad (f y)) ys)
  each_seen F f bad ys n size h =
      ap (λ m. find test (map F (below m))) size
      ∙ each_position F (λ y. bad (f y)) ys (λ k y e. h k (f y) (get-map f ys k y e))

  -- ---- two indices

  -- what is first of a row or of later rows, by two numbers, is what the first pair of numbers makes
  pair_by : (F : ℕ → ℕ → X) (a : ℕ) (o : Option ℕ) (later : Option (ℕ × ℕ))
      → option_or (option_map (F a) o) (option_map (λ p. F p.0 p.1) later)
      ≡ option_map (λ p. F p.0 p.1) (option_or (option_map (λ j. (a, j)) o) later)
  pair_by F a None later = refl
  pair_by F a (Some j) later = refl

  -- faults by two numbers, from row a on, are searched row by row
  pairs_from : {Y : Type 0} (F : ℕ → ℕ → X) (row : ℕ → List X) (search : Y → Option ℕ) (ys : List Y) (a : ℕ)
      → ((k : ℕ) (y : Y) → slice_get ys k ≡ Some y → find test (row (a + k)) ≡ option_map (F (a + k)) (search y))
      → find test (flat_map row (range_with_len a (length ys))) ≡ option_map (λ p. F p.0 p.1) (first_pair search a ys)
  pairs_from F row search [] a h = refl
  pairs_from F row search (y ∷ ys) a h =
      let here : a ≡ a + 0 = omega arith in
      find-append test (row a) (flat_map row (range_with_len (a + 1) (length ys)))
      ∙ ap (λ o. option_or o (find test (flat_map row (range_with_len (a + 1) (length ys)))))
      (ap (λ b. find test (row b)) here ∙ h 0 y refl ∙ ap (λ b. option_map (F b) (search y)) (sym here))
      ∙ ap (option_or (option_map (F a) (search y)))
      (pairs_from F row search ys (a + 1)
      (λ k z e. let next : a + 1 + k ≡ a + suc k = omega arith in
      ap (λ b. find test (row b)) next ∙ h (suc k) z e ∙ ap (λ b. option_map (F b) (search z)) (sym next)))
      ∙ pair_by F a (search y) (first_pair search (a + 1) ys)

  -- the first fault of a kind with two places stands where the search by rows finds it
  pub pairs_seen : {Y : Type 0} (F : ℕ → ℕ → X) (row : ℕ → List X) (search : Y → Option ℕ) (ys : List Y) (n : ℕ)
      → n ≡ length ys → ((k : ℕ) (y : Y) → slice_get ys k ≡ Some y → find test (row k) ≡ option_map (F k) (search y))
      → find test (flat_map row (below n)) ≡ option_map (λ p. F p.0 p.1) (first_pair search 0 ys)
  pairs_seen F row search ys n size h =
      ap (λ m. find test (flat_map row (below m))) size
      ∙ pairs_from F row search ys 0
      (λ k y e. let start : 0 + k ≡ k = omega arith in
      ap (λ b. find test (row b)) start ∙ h k y e ∙ ap (λ b. option_map (F b) (search y)) (sym start))

  -- a search of a mapped list finds what the function makes of what is first found in the list
  pub find-map : {Y : Type 0} (f : Y → X) (ys : List Y)
      → find test (map f ys) ≡ option_map f (find (λ y. test (f y)) ys)
  find-map f [] = refl
  find-map f (y ∷ ys) = by (test (f y)) (find-map f ys)
    where
      by : (b : Bool) → find test (map f ys) ≡ option_map f (find (λ z. test (f z)) ys)
          → cond b (Some (f y)) (find test (map f ys)) ≡ option_map f (cond b (Some y) (find (λ z. test (f z)) ys))
      by true h = refl
      by false h = h
