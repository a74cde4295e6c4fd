-- Items of a list, and the numbers that they write.
use Rattle.std.proofs.Common.{◌≡◌, ◌≢◌, ◌⊎◌, inl, ℕ, ◌+◌, ◌<◌, ◌≤◌, ◌^◌, Bool, true, false, ◌&&◌, cond, eqb, ltb, List, [], ◌∷◌, ◌++◌, length, map, get_or, take, Some, None, Result, Ok, Err, refl, sym, ◌∙◌, ap, subst, arith, Bor}
use Rattle.std.specs.Prelude.{IfOk, IfErr}
use Rattle.std.specs.Global.{Vec}
use Rattle.std.specs.List.{slice_split}
use Rattle.std.specs.Result.{IsErrAnd, OkIff, result_ok}
use Rattle.std.specs.Str.{all_ascii_digits}
use Rattle.std.specs.Str.Parse.{digits_value, ParsesUnsigned}
use Rattle.std.proofs.lemmas.Bool.{and_parts, and_from, ltb-true, lt-ltb, true≢false}
use Rattle.std.proofs.lemmas.List.{get_or-map, take_more, map-append}
use Rattle.std.proofs.lemmas.Str.Parse.{IsNumeralModel, numerals_by_value, tells_all_ascii_digits, parse_plain}
use Rattle.cmh_command.specs.List.{IsFirstListFault, IsListOf, items_of, is_number, number_of}
use Rattle.cmh_command.specs.declared.TheConstants.{MAX_NUMBERS}
use Rattle.cmh_command.specs.declared.list.ListFault.{ListFault}
use Rattle.cmh_command.specs.declared.list.ListFault.TheVariants.{Memory}

-- ---- one item

-- an item that is a number has one or more bytes, all of them digits, and a value that fits
number_parts : (item : List ℕ) → is_number item ≡ true
    → (0 < length item) × (all_ascii_digits item ≡ true) × (digits_value 10 item < 2 ^ 64)
unfolding is_number
number_parts item h =
    let outer = and_parts (ltb 0 (length item) && all_ascii_digits item) (ltb (digits_value 10 item) (2 ^ 64)) h in
    let inner = and_parts (ltb 0 (length item)) (all_ascii_digits item) outer.0 in
    (ltb-true 0 (length item) inner.0, inner.1, ltb-true (digits_value 10 item) (2 ^ 64) outer.1)

-- an item of one or more bytes, all of them digits, with a value that fits is a number
parts_number : (item : List ℕ) → 0 < length item → all_ascii_digits item ≡ true → digits_value 10 item < 2 ^ 64
    → is_number item ≡ true
unfolding is_number
parts_number item some digits fits =
    and_from (ltb 0 (length item) && all_ascii_digits item) (ltb (digits_value 10 item) (2 ^ 64))
    (and_from (ltb 0 (length item)) (all_ascii_digits item) (lt-ltb 0 (length item) some) digits)
    (lt-ltb (digits_value 10 item) (2 ^ 64) fits)

-- an item that writes a number is a number
pub number_is : (item : List ℕ) (n : ℕ) → number_of item ≡ Some n → is_number item ≡ true
number_is item n = by_test (is_number item)
  where
    by_test : (b : Bool) → cond b (Some (digits_value 10 item)) None ≡ Some n → b ≡ true
    by_test true e = refl
    by_test false e = cc

-- an item that writes no number is no number
pub no_number_is : (item : List ℕ) → number_of item ≡ None → is_number item ≡ false
no_number_is item = by_test (is_number item)
  where
    by_test : (b : Bool) → cond b (Some (digits_value 10 item)) None ≡ None → b ≡ false
    by_test true e = cc
    by_test false e = refl

-- digits don't begin with a sign
signed_digits : (item : List ℕ) → get_or item 0 0 ≡ 43 → all_ascii_digits item ≡ true → ⊥
signed_digits [] e h = zero_is_none e
  where
    zero_is_none : ◌≡◌ {A = ℕ} 0 43 → ⊥
    zero_is_none e = omega arith
signed_digits (c ∷ cs) e h =
    let no : all_ascii_digits (43 ∷ cs) ≡ true = subst (λ (d : ℕ). all_ascii_digits (d ∷ cs) ≡ true) e h in
    absurd (true≢false (sym no))

-- an item with a sign writes no number
pub signed_none : (item : List ℕ) → get_or item 0 0 ≡ 43 → None ≡ number_of item
signed_none item e = by_test (is_number item) refl
  where
    by_test : (b : Bool) → is_number item ≡ b → None ≡ cond b (Some (digits_value 10 item)) None
    by_test true h = absurd (signed_digits item e (number_parts item h).1)
    by_test false h = refl

-- a text of digits alone is a numeral, with their value
digits_model : IsNumeralModel (λ ds. all_ascii_digits ds ≡ true) (digits_value 10)
digits_model = numerals_by_value (λ ds. all_ascii_digits ds ≡ true) tells_all_ascii_digits

-- without a sign, what `parse` gives is the number that the item writes
pub parsed : {E : Type 0} (item : List ℕ) (r : Result ℕ E) → ParsesUnsigned 64 10 item r → get_or item 0 0 ≢ 43
    → result_ok r ≡ number_of item
parsed item r h plain = by_result r (parse_plain digits_model 64 item r h plain)
  where
    by_result : {E : Type 0} (r : Result ℕ E)
        → OkIff r ((all_ascii_digits item ≡ true) × (0 < length item) × (digits_value 10 item < 2 ^ 64))
        (digits_value 10 item) → result_ok r ≡ number_of item
    by_result (Ok x) k = rw (parts_number item k.0.1 k.0.0 k.0.2) (ap Some k.1)
    by_result (Err e) k = by_test (is_number item) refl
      where
        by_test : (b : Bool) → is_number item ≡ b → None ≡ cond b (Some (digits_value 10 item)) None
        by_test true h = let parts = number_parts item h in absurd (k (parts.1, parts.0, parts.2))
        by_test false h = refl

-- ---- items in their order

-- a text that isn't empty is cut at its commas
pub cut_items : (text : List ℕ) → length text ≢ 0 → items_of text ≡ slice_split (λ c. eqb c 44) text
cut_items [] some = absurd (some refl)
cut_items (b ∷ bs) some = refl

-- what was cut from the text at place i is item i of the text
pub item_is : (list : List (Bor (List ℕ))) (text : List ℕ) (i : ℕ) (d : Bor (List ℕ))
    → map (λ item. item.now) list ≡ items_of text → i < length list
    → (get_or list i d).now ≡ get_or (items_of text) i []
item_is list text i d e l =
    sym (get_or-map (λ (item : Bor (List ℕ)). item.now) list i d [] l) ∙ ap (λ xs. get_or xs i []) e

-- where the first i items write the numbers so far and the next one writes n, the first i + 1 write n at the end
pub written_more : (items : List (List ℕ)) (numbers : List ℕ) (i n : ℕ) → i < length items
    → map number_of (take i items) ≡ map Some numbers → number_of (get_or items i []) ≡ Some n
    → map number_of (take (i + 1) items) ≡ map Some (numbers ++ n ∷ [])
written_more items numbers i n l e h = ap (map number_of) (take_more items i [] l)
    ∙ map-append number_of (take i items) (get_or items i [] ∷ [])
    ∙ rw (e, h) (sym (map-append Some numbers (n ∷ [])))

-- where the fault is out of memory, what is promised of lists holds, whatever the items are
pub out_of_memory : (text : List ℕ) (r : Result (Vec ℕ) ListFault) → IsErrAnd r (λ e. e ≡ Memory)
    → IfOk r (λ list. IsListOf text list.items) × IfOk r (λ list. length list.items ≤ MAX_NUMBERS)
    × IfErr r (λ e. (e ≡ Memory) ⊎ IsFirstListFault text e)
out_of_memory text (Ok list) h = absurd h
out_of_memory text (Err e) h = (tt, tt, inl h)
