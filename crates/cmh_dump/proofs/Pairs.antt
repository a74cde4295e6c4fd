-- Loops over lists and rows: what is left of them decides.
use Rattle.std.proofs.Common.{◌≡◌, ℕ, zero, suc, ◌+◌, ◌<◌, ◌≤◌, List, [], ◌∷◌, ◌++◌, Bool, true, false, not, ◌&&◌, cond, Option, Some, None, length, map, get_or, drop, refl, sym, ap, ◌∙◌, arith, add-one, drop-cons}
use Rattle.std.specs.Prelude.{option_map, position, unwrap_or}
use Rattle.std.specs.List.{list_all, position_from}
use Rattle.std.specs.Option.{option_or}
use Rattle.std.proofs.lemmas.Bool.{and_parts}
use Rattle.std.proofs.lemmas.Iterator.Adapters.{position_from-zero}
use Rattle.std.proofs.lemmas.List.{length-append}
use Rattle.cmh_dump.specs.Read.{first_pair}

-- what is left of a list from place i on is the element at i, and what is left from i + 1 on
pub drop_next : {Y : Type 0} (ys : List Y) (i : ℕ) (y : Y) → i < length ys → y ≡ get_or ys i y
    → drop i ys ≡ y ∷ drop (i + 1) ys
drop_next ys i y lt is = rw add-one (drop-cons ys i y lt ∙ ap (λ z. z ∷ drop (suc i) ys) (sym is))

-- past its end nothing is left of a list
pub drop_all : {Y : Type 0} (ys : List Y) (i : ℕ) → length ys ≤ i → drop i ys ≡ []
drop_all [] zero le = refl
drop_all [] (suc i) le = refl
drop_all (y ∷ ys) zero le = absurd (omega (arith, le))
drop_all (y ∷ ys) (suc i) le = drop_all ys i (omega (arith, le))

-- where a search of a row and of those after it finds nothing, it finds nothing in either
pub neither_row : (i : ℕ) (o : Option ℕ) (rest : Option (ℕ × ℕ)) → option_or (option_map (λ j. (i, j)) o) rest ≡ None
    → (o ≡ None) × (rest ≡ None)
neither_row i None rest h = (refl, h)
neither_row i (Some j) rest h = absurd cc

-- where no element fails a test from a place on, all of them pass
all_from : {Y : Type 0} (test : Y → Bool) (i : ℕ) (ys : List Y) → position_from (λ y. not (test y)) i ys ≡ None
    → list_all test ys ≡ true
all_from test i [] h = refl
all_from test i (y ∷ ys) h = by (test y) h (all_from test (i + 1) ys)
  where
    by : (b : Bool) → cond (not b) (Some i) (position_from (λ y. not (test y)) (i + 1) ys) ≡ None
        → (position_from (λ y. not (test y)) (i + 1) ys ≡ None → list_all test ys ≡ true)
        → (b && list_all test ys) ≡ true
    by true e later = later e
    by false e later = absurd cc

-- where no element fails a test, all of them pass
pub all_pass : {Y : Type 0} (test : Y → Bool) (ys : List Y) → position (λ y. not (test y)) ys ≡ None
    → list_all test ys ≡ true
all_pass test ys h = all_from test 0 ys (sym (position_from-zero (λ y. not (test y)) ys) ∙ h)

module _ {Y : Type 0} (bad : Y → Bool) (ys : List Y) where
  -- the first bad element of all is the first bad one of those that are left from place i on
  abbrev pub FirstIsLeft : ℕ → Type 0
  FirstIsLeft i = position bad ys ≡ position_from bad i (drop i ys)

  -- at the start, where all elements are left, the first bad one of all is the first of those left
  pub all_left : FirstIsLeft 0
  all_left = position_from-zero bad ys

  -- where the first bad element is the first of those left from i on and that at i is bad, it stands at i
  pub first_found : (i : ℕ) (y : Y) → i < length ys → y ≡ get_or ys i y → bad y ≡ true → FirstIsLeft i
      → position bad ys ≡ Some i
  first_found i y lt is here left =
      left ∙ ap (position_from bad i) (drop_next ys i y lt is)
      ∙ ap (λ b. cond b (Some i) (position_from bad (i + 1) (drop (i + 1) ys))) here

  -- past an element that isn't bad, the first bad one of all is still the first of those that are left
  pub first_passed : (i : ℕ) (y : Y) → i < length ys → y ≡ get_or ys i y → bad y ≡ false → FirstIsLeft i
      → FirstIsLeft (i + 1)
  first_passed i y lt is here left =
      left ∙ ap (position_from bad i) (drop_next ys i y lt is)
      ∙ ap (λ b. cond b (Some i) (position_from bad (i + 1) (drop (i + 1) ys))) here

  -- where the first bad element of all is the first of those left, and none are left, there is none
  pub none_left : (i : ℕ) → length ys ≤ i → FirstIsLeft i → position bad ys ≡ None
  none_left i le left = left ∙ ap (position_from bad i) (drop_all ys i le)

-- a search of a list by what a function makes of each element is one of the mapped list
position_from-map : {Y Z : Type 0} (bad : Z → Bool) (f : Y → Z) (i : ℕ) (ys : List Y)
    → position_from (λ y. bad (f y)) i ys ≡ position_from bad i (map f ys)
position_from-map bad f i [] = refl
position_from-map bad f i (y ∷ ys) =
    ap (cond (bad (f y)) (Some i)) (position_from-map bad f (i + 1) ys)

pub position-map : {Y Z : Type 0} (bad : Z → Bool) (f : Y → Z) (ys : List Y)
    → position (λ y. bad (f y)) ys ≡ position bad (map f ys)
position-map bad f ys =
    position_from-zero (λ y. bad (f y)) ys ∙ position_from-map bad f 0 ys
    ∙ sym (position_from-zero bad (map f ys))

-- or none is the same
pub or_none : {X : Type 0} (o : Option X) → option_or o None ≡ o
or_none None = refl
or_none (Some x) = refl

-- a search from place a on, of a list with one element more at its end, asks that one last
position_from-last : {Z : Type 0} (test : Z → Bool) (a : ℕ) (zs : List Z) (z : Z)
    → position_from test a (zs ++ z ∷ [])
    ≡ option_or (position_from test a zs) (cond (test z) (Some (a + length zs)) None)
position_from-last test a [] z =
    let start : a ≡ a + 0 = omega arith in
    ap (λ n. cond (test z) (Some n) None) start
position_from-last test a (y ∷ zs) z = by (test y) (position_from-last test (a + 1) zs z)
  where
    next : a + 1 + length zs ≡ a + suc (length zs)
    next = omega arith

    by : (b : Bool) → position_from test (a + 1) (zs ++ z ∷ [])
        ≡ option_or (position_from test (a + 1) zs) (cond (test z) (Some (a + 1 + length zs)) None)
        → cond b (Some a) (position_from test (a + 1) (zs ++ z ∷ []))
        ≡ option_or (cond b (Some a) (position_from test (a + 1) zs))
        (cond (test z) (Some (a + suc (length zs))) None)
    by true h = refl
    by false h = h ∙ ap (λ n. option_or (position_from test (a + 1) zs) (cond (test z) (Some n) None)) next

module _ {Y Z : Type 0} (bad : Y → Bool) (ill : Z → Bool) (ys : List Y) where
  -- what was made of the elements before place i is as many, and the first bad element of all is the first ill one of
  -- these, or else the first bad one of those that are left
  abbrev pub MadeDecides : List Z → ℕ → Type 0
  MadeDecides zs i =
      (length zs ≡ i) × (position bad ys ≡ option_or (position ill zs) (position_from bad i (drop i ys)))

  -- at the start all elements are left
  pub none_made : MadeDecides [] 0
  none_made = (refl, position_from-zero bad ys)

  -- where the element at i is bad, the first bad one of all is the first ill one, or else the one at i
  pub made_found : (zs : List Z) (i : ℕ) (y : Y) → i < length ys → y ≡ get_or ys i y → bad y ≡ true → MadeDecides zs i
      → position bad ys ≡ Some (unwrap_or (position ill zs) i)
  made_found zs i y lt is here left =
      left.1
      ∙ ap (λ rest. option_or (position ill zs) (position_from bad i rest)) (drop_next ys i y lt is)
      ∙ ap (λ b. option_or (position ill zs) (cond b (Some i) (position_from bad (i + 1) (drop (i + 1) ys)))) here
      ∙ by (position ill zs)
    where
      by : (o : Option ℕ) → option_or o (Some i) ≡ Some (unwrap_or o i)
      by None = refl
      by (Some j) = refl

  -- past an element of which one is made that is ill just where it is bad, the same holds
  pub made_passed : (zs more : List Z) (z : Z) (i : ℕ) (y : Y) → more ≡ zs ++ z ∷ [] → i < length ys
      → y ≡ get_or ys i y → bad y ≡ ill z → MadeDecides zs i → MadeDecides more (i + 1)
  made_passed zs more z i y pushed lt is same left =
      let later = position_from bad (i + 1) (drop (i + 1) ys) in
      let size : 0 + length zs ≡ i = omega (arith, left.0) in
      let asked : position ill more ≡ option_or (position ill zs) (cond (ill z) (Some i) None) =
      ap (position ill) pushed ∙ position_from-zero ill (zs ++ z ∷ []) ∙ position_from-last ill 0 zs z
      ∙ (λ k. option_or (sym (position_from-zero ill zs) k) (cond (ill z) (Some (size k)) None)) in (
        ap length pushed ∙ length-append zs (z ∷ []) ∙ ap (λ n. n + 1) left.0,
        left.1
            ∙ ap (λ rest. option_or (position ill zs) (position_from bad i rest)) (drop_next ys i y lt is)
            ∙ ap (λ b. option_or (position ill zs) (cond b (Some i) later)) same
            ∙ by (position ill zs) (ill z) later ∙ ap (λ o. option_or o later) (sym asked),
      )
    where
      by : (o : Option ℕ) (b : Bool) (later : Option ℕ)
          → option_or o (cond b (Some i) later) ≡ option_or (option_or o (cond b (Some i) None)) later
      by None true later = refl
      by None false later = refl
      by (Some j) b later = refl

  -- where none are left, the first bad one of all is the first ill one
  pub all_made : (zs : List Z) (i : ℕ) → length ys ≤ i → MadeDecides zs i → position bad ys ≡ position ill zs
  all_made zs i le left =
      left.1 ∙ ap (λ rest. option_or (position ill zs) (position_from bad i rest)) (drop_all ys i le)
      ∙ or_none (position ill zs)

module _ {Y : Type 0} (search : Y → Option ℕ) (ys : List Y) where
  -- what the search finds in the rows that are left from i on is what it finds in all of them
  abbrev pub LeftDecides : ℕ → Type 0
  LeftDecides i = first_pair search 0 ys ≡ first_pair search i (drop i ys)

-- where all elements of a list pass a test, the one at each place does
pub passes_at : {X : Type 0} (test : X → Bool) (xs : List X) (i : ℕ) (x : X) → list_all test xs ≡ true → i < length xs
    → x ≡ get_or xs i x → test x ≡ true
passes_at test [] i x h l is = absurd (omega arith)
passes_at test (y ∷ ys) zero x h l is = ap test is ∙ (and_parts (test y) (list_all test ys) h).0
passes_at test (y ∷ ys) (suc i) x h l is =
    passes_at test ys i x (and_parts (test y) (list_all test ys) h).1 (omega arith) is
