-- Names put into an index one after the other.
use Rattle.std.proofs.Common.{◌≡◌, ℕ, zero, suc, ◌+◌, ◌<◌, ◌≤◌, List, [], ◌∷◌, ◌++◌, Bool, true, false, not, ◌||◌, cond, Some, None, take, length, get_or, nat_le, nat_lt, refl, sym, ap, ◌∙◌, arith, Bor, below_more}
use Rattle.std.specs.Prelude.{bytes_eq, slice_get}
use Rattle.std.specs.List.{list_any, position_or_len}
use Rattle.std.proofs.lemmas.List.{get_or-map, take_all}
use Rattle.cmh_dump.specs.Name.{is_among, place_of, repeats}
use Rattle.cmh_dump.specs.Texts.{texts}
use Rattle.cmh_dump.specs.Index.{first_repeat}
use Rattle.cmh_dump.proofs.FirstFault.Searches.{none_found}
use Rattle.cmh_dump.proofs.Keys.{any_of_texts}
use Rattle.cmh_dump.proofs.Taken.{take-next, texts-append}

-- two texts are equal
abbrev pub same_text : Bor (List ℕ) → Bor (List ℕ) → Bool
same_text a b = bytes_eq a.now b.now

-- the text of the borrow at a place is read at that place of the list of texts
at_texts : (names : List (Bor (List ℕ))) (i : ℕ) (d : Bor (List ℕ)) → i < length names
    → slice_get (texts names) i ≡ Some (get_or names i d).now
at_texts [] i d lt = absurd (omega arith)
at_texts (x ∷ xs) zero d lt = refl
at_texts (x ∷ xs) (suc i) d lt = at_texts xs i d (omega arith)

-- there are as many texts as borrows of them
pub length-texts : (names : List (Bor (List ℕ))) → length (texts names) ≡ length names
length-texts [] = refl
length-texts (x ∷ xs) = ap suc (length-texts xs)

-- whether the keys so far hold the name at place i says whether it repeats an earlier one
repeat_is : (names keys : List (Bor (List ℕ))) (i : ℕ) (d : Bor (List ℕ)) → i < length names
    → texts keys ≡ take i (texts names) → list_any (same_text (get_or names i d)) keys ≡ repeats (texts names) i
repeat_is names keys i d lt h =
    let name = (get_or names i d).now in
    any_of_texts (bytes_eq name) keys ∙ ap (list_any (bytes_eq name)) h
    ∙ ap (is_among (take i (texts names))) (sym (get_or-map (λ t. t.now) names i d [] lt))

-- what is denied twice holds
double_not : (b : Bool) → not (not b) ≡ b
double_not true = refl
double_not false = refl

-- a name that is not new is a repeat
pub repeated : (names keys : List (Bor (List ℕ))) (i : ℕ) (d : Bor (List ℕ)) (is_new : Bool) → i < length names
    → texts keys ≡ take i (texts names) → is_new ≡ not (list_any (same_text (get_or names i d)) keys) → is_new ≡ false
    → (i < length (texts names)) × (repeats (texts names) i ≡ true)
repeated names keys i d is_new lt h added old = (
  let l = length-texts names in omega arith,
  sym (repeat_is names keys i d lt h) ∙ sym (double_not _) ∙ ap not (sym added ∙ old),
)

-- a name that is new is one key more, and none up to it repeats
pub not_repeated : (names keys : List (Bor (List ℕ))) (i : ℕ) (d : Bor (List ℕ)) (is_new : Bool) → i < length names
    → texts keys ≡ take i (texts names) → is_new ≡ not (list_any (same_text (get_or names i d)) keys) → is_new ≡ true
    → ((k : ℕ) → k < i → repeats (texts names) k ≡ false)
    → (texts (cond (list_any (same_text (get_or names i d)) keys) keys (keys ++ get_or names i d ∷ []))
    ≡ take (i + 1) (texts names)) × ((k : ℕ) → k < i + 1 → repeats (texts names) k ≡ false)
not_repeated names keys i d is_new lt h added new before =
    let absent : list_any (same_text (get_or names i d)) keys ≡ false = sym (double_not _) ∙ ap not (sym added ∙ new) in
    let next : suc i ≡ i + 1 = omega arith in (
      ap (λ b. texts (cond b keys (keys ++ get_or names i d ∷ []))) absent ∙ texts-append keys (get_or names i d ∷ [])
          ∙ ap (λ ts. ts ++ (get_or names i d).now ∷ []) h ∙ sym (take-next (texts names) i _ (at_texts names i d lt))
          ∙ ap (λ n. take n (texts names)) next,
      below_more _ _ before (sym (repeat_is names keys i d lt h) ∙ absent),
    )

-- once all names are in the index it has them all, and none repeats
pub all_apart : (names keys : List (Bor (List ℕ))) (i : ℕ) → length names ≤ i → texts keys ≡ take i (texts names)
    → ((k : ℕ) → k < i → repeats (texts names) k ≡ false)
    → (texts keys ≡ texts names) × (first_repeat (texts names) ≡ None)
all_apart names keys i past seen before = (
  seen ∙ take_all i (texts names) (omega (arith, past, length-texts names)),
  none_found (repeats (texts names)) (length (texts names))
      (λ k l. before k (omega (arith, l, past, length-texts names))),
)

-- the place of a text among borrows is that among the texts
position-texts : (name : List ℕ) (keys : List (Bor (List ℕ)))
    → position_or_len (λ k. bytes_eq name k.now) keys ≡ position_or_len (bytes_eq name) (texts keys)
position-texts name [] = refl
position-texts name (k ∷ ks) = ap (λ n. cond (not (bytes_eq name k.now)) (1 + n) 0) (position-texts name ks)

-- with one more on both sides a comparison stays as it is
shifted : (a b : ℕ) → nat_lt (1 + a) (suc b) ≡ nat_lt a b
shifted a b = grind arith

-- zero is less than one more than any number
first_is : (b : ℕ) → nat_lt 0 (suc b) ≡ true
first_is b = grind arith

-- a place is within the names exactly where the name is among them
pub place_is_below : (name : List ℕ) (names : List (List ℕ))
    → nat_lt (place_of names name) (length names) ≡ is_among names name
place_is_below name [] = refl
place_is_below name (x ∷ xs) = by (bytes_eq name x) (place_is_below name xs)
  where
    by : (b : Bool) → nat_lt (place_of xs name) (length xs) ≡ is_among xs name
        → nat_lt (cond (not b) (1 + place_of xs name) 0) (suc (length xs)) ≡ (b || is_among xs name)
    by true e = first_is (length xs)
    by false e = shifted (place_of xs name) (length xs) ∙ e

-- a place is past the names exactly where the name isn't among them
pub place_is_past : (names : List (List ℕ)) (name : List ℕ)
    → nat_le (length names) (place_of names name) ≡ not (is_among names name)
place_is_past names name = past (place_of names name) (length names) ∙ ap not (place_is_below name names)
  where
    past : (a b : ℕ) → nat_le b a ≡ not (nat_lt a b)
    past a b = grind arith

-- the place that the index answers, if any, is that among the texts
pub place_is : (name : List ℕ) (keys : List (Bor (List ℕ)))
    → cond (nat_lt (position_or_len (λ k. bytes_eq name k.now) keys) (length keys))
    (Some (position_or_len (λ k. bytes_eq name k.now) keys)) None
    ≡ cond (is_among (texts keys) name) (Some (place_of (texts keys) name)) None
place_is name keys =
    (λ i. cond (nat_lt (position-texts name keys i) (sym (length-texts keys) i)) (Some (position-texts name keys i))
    None) ∙ ap (λ b. cond b (Some (place_of (texts keys) name)) None) (place_is_below name (texts keys))
