-- The keys of an object, from those of the map that holds it.
use Rattle.std.proofs.Common.{◌≡◌, ℕ, suc, List, [], ◌∷◌, Bool, true, false, ◌&&◌, ◌||◌, cond, Option, Some, None, map, length, refl, sym, ap, ◌∙◌, arith, Bor}
use Rattle.std.specs.Prelude.{string_bytes, is_some, bytes_eq, unwrap_or, String}
use Rattle.std.specs.List.{list_all, list_any}
use Rattle.std.specs.Option.{option_map_or}
use Rattle.std.specs.Cmp.Lexicographic.{slice_cmp}
use Rattle.std.specs.Global.{Global}
use Rattle.std.specs.Ordering.{nat_cmp, is_eq, match_ordering}
use Rattle.std.specs.Set.{distinct_count, unique_keys}
use Rattle.std.specs.declared.cmp.Ordering.{Ordering}
use Rattle.std.specs.declared.cmp.Ordering.TheVariants.{Less, Equal, Greater}
use Rattle.std.proofs.lemmas.Bool.{false≢true, and_parts}
use Rattle.std.proofs.lemmas.Cmp.{nat_list_eq_equiv}
use Rattle.std.proofs.lemmas.Map.Made.{length-le_from_is_member, IsDistinct-from_count}
use Rattle.std.proofs.lemmas.Map.Text.{is_eq-slice_cmp}
use Rattle.std.proofs.lemmas.Slice.Eq.{bytes_eq-Decides}
use Rattle.serde_json.specs.Data.{Data, object, Members, no_members, member}
use Rattle.serde_json.specs.Find.{get, get_member, as_object}
use Rattle.serde_json.specs.View.{members_of}
use Rattle.cmh_dump.specs.Tree.{has_keys, keys_of}
use Rattle.cmh_dump.specs.Name.{is_among}
use Rattle.cmh_dump.specs.Texts.{texts}

-- what is no object has no keys
pub not_object : (needed allowed : List (List ℕ)) (d : Data) → as_object d ≡ None → has_keys needed allowed d ≡ false
not_object needed allowed d e =
    ap
    (λ (o : Option Members). is_some o && list_all (λ k. is_some (get k d)) needed
    && list_all (λ k. list_any (bytes_eq k) needed || list_any (bytes_eq k) allowed) (option_map_or keys_of o []))
    e

-- a test of all borrows is one of all texts
pub all_of_texts : (test : List ℕ → Bool) (ws : List (Bor (List ℕ)))
    → list_all (λ w. test w.now) ws ≡ list_all test (texts ws)
all_of_texts test [] = refl
all_of_texts test (w ∷ ws) = ap (λ b. test w.now && b) (all_of_texts test ws)

-- a test of any borrow is one of any text
pub any_of_texts : (test : List ℕ → Bool) (ws : List (Bor (List ℕ)))
    → list_any (λ w. test w.now) ws ≡ list_any test (texts ws)
any_of_texts test [] = refl
any_of_texts test (w ∷ ws) = ap (λ b. test w.now || b) (any_of_texts test ws)

-- what is among texts passes a test that all of them pass
pub among_passes : (test : List ℕ → Bool) (ks : List (List ℕ)) (k : List ℕ) → list_all test ks ≡ true
    → is_among ks k ≡ true → test k ≡ true
among_passes test [] k h m = absurd (false≢true m)
among_passes test (l ∷ ks) k h m =
    let both = and_parts (test l) (list_all test ks) h in
    by (bytes_eq k l) refl both.0 (among_passes test ks k both.1) m
  where
    by : (b : Bool) → bytes_eq k l ≡ b → test l ≡ true → (is_among ks k ≡ true → test k ≡ true)
        → (b || is_among ks k) ≡ true → test k ≡ true
    by true e passed later m = ap test ((bytes_eq-Decides k l).0 e) ∙ passed
    by false e passed later m = later m

-- where the second of two tests holds, one of them does
second : (a b : Bool) → b ≡ true → (a || b) ≡ true
second true b h = refl
second false b h = h

-- where each text that is among some passes a test, all of these pass it
all_among : (test : List ℕ → Bool) (ks : List (List ℕ)) → ((k : List ℕ) → is_among ks k ≡ true → test k ≡ true)
    → list_all test ks ≡ true
all_among test [] f = refl
all_among test (k ∷ ks) f =
    let first = f k (ap (λ b. b || is_among ks k) ((bytes_eq-Decides k k).1 refl)) in
    let rest = all_among test ks (λ l m. f l (second (bytes_eq l k) (is_among ks l) m)) in
    λ i. first i && rest i

-- where texts of which none repeats are all among as many others, none of these others is another text
none_other : (ks all : List (List ℕ)) → distinct_count bytes_eq ks ≡ length ks
    → list_all (is_among all) ks ≡ true → length all ≡ length ks → (k : List ℕ) → is_among all k ≡ true
    → is_among ks k ≡ true
none_other ks all apart within size k m = by (is_among ks k) refl
  where
    among : (l : List ℕ) → (bytes_eq l k || is_among ks l) ≡ true → is_among all l ≡ true
    among l h = among_passes (is_among all) (k ∷ ks) l (λ i. m i && within i) h

    by : (b : Bool) → is_among ks k ≡ b → is_among ks k ≡ true
    by true e = e
    by false e =
        let more : distinct_count bytes_eq (k ∷ ks) ≡ length (k ∷ ks) =
        ap (λ b. length (cond b (unique_keys bytes_eq ks) (k ∷ unique_keys bytes_eq ks))) e ∙ ap suc apart in
        let fits = length-le_from_is_member nat_list_eq_equiv (k ∷ ks) all
        (IsDistinct-from_count nat_list_eq_equiv (k ∷ ks) more) among in
        absurd (omega (arith, fits, size))

-- a key at which a member is found is a key of the object
found_key : (k : List ℕ) (ms : Members) → is_some (get_member k ms) ≡ true → is_among (keys_of ms) k ≡ true
found_key k no_members h = absurd (false≢true h)
found_key k (member l e ms) h = by (slice_cmp nat_cmp k l) refl h (found_key k ms)
  where
    by : (o : Ordering) → slice_cmp nat_cmp k l ≡ o
        → is_some (match_ordering o (get_member k ms) (Some e) (get_member k ms)) ≡ true
        → (is_some (get_member k ms) ≡ true → is_among (keys_of ms) k ≡ true)
        → (bytes_eq k l || is_among (keys_of ms) k) ≡ true
    by Less s h later = second (bytes_eq k l) (is_among (keys_of ms) k) (later h)
    by Equal s h later = ap (λ b. b || is_among (keys_of ms) k) (sym (is_eq-slice_cmp k l) ∙ ap is_eq s)
    by Greater s h later = second (bytes_eq k l) (is_among (keys_of ms) k) (later h)

-- what is found in an object is found among its members
get_held : (k : List ℕ) (ms : Members) (d : Data) → Some ms ≡ as_object d → get k d ≡ get_member k ms
get_held k ms (object xs) h = ap (λ (o : Option Members). get_member k (unwrap_or o xs)) (sym h)
get_held k ms d h = absurd cc

-- where members are found at all keys of a list, these are keys of the object
found_keys : (ks : List (List ℕ)) (ms : Members) (d : Data) → Some ms ≡ as_object d
    → list_all (λ k. is_some (get k d)) ks ≡ true → list_all (is_among (keys_of ms)) ks ≡ true
found_keys [] ms d held h = refl
found_keys (k ∷ ks) ms d held h =
    let both = and_parts (is_some (get k d)) (list_all (λ k. is_some (get k d)) ks) h in
    let first = found_key k ms (ap is_some (sym (get_held k ms d held)) ∙ both.0) in
    let rest = found_keys ks ms d held both.1 in
    λ i. first i && rest i

-- the key is one of the needed or of the allowed ones
abbrev pub is_allowed : List (List ℕ) → List (List ℕ) → List ℕ → Bool
is_allowed needed allowed key = is_among needed key || is_among allowed key

-- the keys of a map that holds an object
abbrev pub map_keys : {V : Type 0} → List (String Global × V) → List (String Global)
map_keys es = map (λ e. e.0) es

-- the members of the object that a map holds
abbrev pub members_in : {V : Type 0} → (V → Data) → List (String Global × V) → Members
members_in view es = members_of (map (λ m. (m.0, view m.1)) es)

-- a test of all keys of a map is one of all keys of the object that it holds
only : {V : Type 0} (test : List ℕ → Bool) (es : List (String Global × V)) (view : V → Data)
    → list_all (λ key. test (string_bytes key)) (map_keys es) ≡ list_all test (keys_of (members_in view es))
only test [] view = refl
only test (e ∷ es) view = ap (λ b. test (string_bytes e.0) && b) (only test es view)

-- an object has as many keys as the map that holds it has entries
length-keys : {V : Type 0} (es : List (String Global × V)) (view : V → Data)
    → length (keys_of (members_in view es)) ≡ length es
length-keys [] view = refl
length-keys (e ∷ es) view = ap suc (length-keys es view)

-- where the map that holds an object has no more entries than there are distinct keys at which members are found, and
-- these keys pass a test, so do all keys of the object
pub counted : {V : Type 0} (test : List ℕ → Bool) (ks : List (List ℕ)) (es : List (String Global × V)) (view : V → Data)
    (d : Data) → Some (members_in view es) ≡ as_object d → distinct_count bytes_eq ks ≡ length ks
    → list_all test ks ≡ true → list_all (λ k. is_some (get k d)) ks ≡ true → length es ≡ length ks
    → list_all test (option_map_or keys_of (as_object d) []) ≡ true
counted test ks es view d held apart passed found size =
    let all = keys_of (members_in view es) in
    let within = found_keys ks (members_in view es) d held found in
    ap (λ (o : Option Members). list_all test (option_map_or keys_of o [])) (sym held)
    ∙ all_among test all
    (λ k m. among_passes test ks k passed
    (none_other ks all apart within (length-keys es view ∙ size) k m))

module _ {V : Type 0} (needed allowed : List (List ℕ)) (es : List (String Global × V)) (view : V → Data) (d : Data)
    (found : Bool)
    (is : found ≡ list_all (λ key. is_allowed needed allowed (string_bytes key)) (map_keys es))
    (held : Some (members_in view es) ≡ as_object d) where
  -- the test of all keys of the map is that of all keys of the object that it holds
  pub allowed_is : found ≡ list_all (is_allowed needed allowed) (option_map_or keys_of (as_object d) [])
  allowed_is =
      is ∙ only (is_allowed needed allowed) es view
      ∙ ap (λ (o : Option Members). list_all (is_allowed needed allowed) (option_map_or keys_of o [])) held

  -- the test of the needed keys and that of all keys of the map are together the test of an object's keys
  pub keys_are : (each : Bool) → each ≡ list_all (λ k. is_some (get k d)) needed
      → (each && found) ≡ has_keys needed allowed d
  keys_are each e =
      (λ i. e i && allowed_is i)
      ∙ ap
      (λ b. b && list_all (λ k. is_some (get k d)) needed
      && list_all (is_allowed needed allowed) (option_map_or keys_of (as_object d) []))
      (ap is_some held)

-- where a needed key is missing, the test of an object's keys fails too
pub keys_missing : (needed allowed : List (List ℕ)) (d : Data) (each : Bool)
    → each ≡ list_all (λ k. is_some (get k d)) needed → each ≡ false → each ≡ has_keys needed allowed d
keys_missing needed allowed d each e f = f ∙ sym (by (is_some (as_object d)))
  where
    by : (o : Bool) → (o && list_all (λ k. is_some (get k d)) needed
        && list_all (is_allowed needed allowed) (option_map_or keys_of (as_object d) [])) ≡ false
    by true =
        ap (λ b. b && list_all (is_allowed needed allowed) (option_map_or keys_of (as_object d) [])) (sym e ∙ f)
    by false = refl
