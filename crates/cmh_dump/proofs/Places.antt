-- Places of names.
use Rattle.std.proofs.Common.{◌≡◌, ℕ, suc, ◌+◌, ◌<◌, List, [], ◌∷◌, Bool, true, false, not, ◌||◌, cond, Option, Some, None, length, get_or, map, nat_le, refl, sym, ap, ◌∙◌, arith}
use Rattle.std.specs.Prelude.{bytes_eq, position, unwrap_or}
use Rattle.std.specs.List.{list_all, list_any, position_or_len}
use Rattle.std.proofs.lemmas.List.Sums.{passes_at_first, prefix_len-le-length}
use Rattle.std.proofs.lemmas.Slice.Eq.{bytes_eq-Decides}
use Rattle.std.proofs.lemmas.Bool.{ltb-false}
use Rattle.serde_json.specs.Data.{Data}
use Rattle.cmh_graph.specs.Build.{process_of}
use Rattle.cmh_graph.specs.Graph.{Process}
use Rattle.cmh_graph.specs.declared.part.Part.{Part}
use Rattle.cmh_dump.specs.declared.entry.Entry as declared
use Rattle.cmh_dump.specs.Dump.{places_in_pair, process_by}
use Rattle.cmh_dump.specs.Name.{is_among, place_of}
use Rattle.cmh_dump.specs.Read.{entry_view, without_name}
use Rattle.cmh_dump.specs.Tree.{texts_of}
use Rattle.cmh_dump.proofs.IndexLemmas.{place_is_below, place_is_past}
use Rattle.cmh_dump.proofs.Pairs.{position-map}

-- the first place of a list that passes a test is within it where one passes
pub first_within : {X : Type 0} (test : X → Bool) (xs : List X) → list_any test xs ≡ true
    → position_or_len test xs < length xs
first_within test [] e = absurd cc
first_within test (x ∷ xs) e = by (test x) (first_within test xs) e
  where
    by : (b : Bool) → (list_any test xs ≡ true → position_or_len test xs < length xs) → (b || list_any test xs) ≡ true
        → cond (not b) (1 + position_or_len test xs) 0 < suc (length xs)
    by true h e = omega arith
    by false h e = let l = h e in omega (arith, l)

-- a name that is among the names has a place within them
pub place_within : (names : List (List ℕ)) (name : List ℕ) → is_among names name ≡ true
    → place_of names name < length names
place_within names name e = first_within (bytes_eq name) names e

-- at the place of a name that is among the names stands that name
pub at_place_of : (names : List (List ℕ)) (name : List ℕ) → is_among names name ≡ true
    → name ≡ get_or names (place_of names name) []
at_place_of names name e =
    (bytes_eq-Decides name (get_or names (place_of names name) [])).0
    (passes_at_first (bytes_eq name) names [] (place_within names name e))

-- two names at one place are the same
pub same_from_places : (names : List (List ℕ)) (a b : List ℕ) → is_among names a ≡ true → is_among names b ≡ true
    → place_of names a ≡ place_of names b → a ≡ b
same_from_places names a b p q e = at_place_of names a p ∙ ap (λ k. get_or names k []) e ∙ sym (at_place_of names b q)

-- the first part whose site is past the sites is that of the first entry on a site that isn't among them
pub past_sites : (sites names : List (List ℕ)) (es : List declared.Entry) (parts : List Part)
    → map process_of parts ≡ map (λ e. without_name (process_by sites names (entry_view e))) es
    → position (λ part. nat_le (length sites) part.site) parts
    ≡ position (λ e. not (is_among sites e.site.now)) es
past_sites sites names es parts made =
    let past = λ (p : Process). nat_le (length sites) p.site in
    position-map past process_of parts ∙ ap (position past) made
    ∙ sym (position-map past (λ e. without_name (process_by sites names (entry_view e))) es)
    ∙ (λ i. position (λ e. place_is_past sites e.site.now i) es)

-- ---- as an index answers them

-- the place of a name, where it is among the names
abbrev pub place_or_none : List (List ℕ) → List ℕ → Option ℕ
place_or_none names name = cond (is_among names name) (Some (place_of names name)) None

-- a place that is there is that of the name, by cases of whether the name is among the names
some_by : (names : List (List ℕ)) (name : List ℕ) (i : ℕ) (b : Bool) → is_among names name ≡ b
    → Some i ≡ cond b (Some (place_of names name)) None → (i ≡ place_of names name) × (is_among names name ≡ true)
some_by names name i true e h = (ap (λ o. unwrap_or o i) h, e)
some_by names name i false e h = absurd cc

-- a place that is found is that of the name, which is among the names
pub place_is_some : (names : List (List ℕ)) (name : List ℕ) (i : ℕ) → Some i ≡ place_or_none names name
    → (i ≡ place_of names name) × (is_among names name ≡ true)
place_is_some names name i h = some_by names name i (is_among names name) refl h

-- where no place is there the name isn't among the names, by cases of whether it is
none_by : (names : List (List ℕ)) (name : List ℕ) (b : Bool) → is_among names name ≡ b
    → None ≡ cond b (Some (place_of names name)) None → is_among names name ≡ false
none_by names name true e h = absurd cc
none_by names name false e h = e

-- where no place is found, the place of the name is past the end
pub place_is_none : (names : List (List ℕ)) (name : List ℕ) → None ≡ place_or_none names name
    → place_of names name ≡ length names
place_is_none names name h =
    let past =
    ltb-false (place_of names name) (length names)
    (place_is_below name names ∙ none_by names name (is_among names name) refl h) in
    let up_to = prefix_len-le-length (λ x. not (bytes_eq name x)) names in
    omega (arith, past, up_to)

-- where no places are read of a pair, one of its names isn't among the names
pub none_lost : (names : List (List ℕ)) (d : Data)
    → None ≡ cond (list_all (is_among names) (texts_of d)) (Some (places_in_pair names d)) None
    → list_all (is_among names) (texts_of d) ≡ false
none_lost names d h = by (list_all (is_among names) (texts_of d)) h
  where
    by : (b : Bool) → None ≡ cond b (Some (places_in_pair names d)) None → b ≡ false
    by true h = absurd cc
    by false h = refl

-- where places are read of a pair, its names are among the names, and these are their places
pub some_found : (names : List (List ℕ)) (d : Data) (p : ℕ × ℕ)
    → Some p ≡ cond (list_all (is_among names) (texts_of d)) (Some (places_in_pair names d)) None
    → (list_all (is_among names) (texts_of d) ≡ true) × (p ≡ places_in_pair names d)
some_found names d p h = by (list_all (is_among names) (texts_of d)) h
  where
    by : (b : Bool) → Some p ≡ cond b (Some (places_in_pair names d)) None
        → (b ≡ true) × (p ≡ places_in_pair names d)
    by true h = (refl, ap (λ (o : Option (ℕ × ℕ)). unwrap_or o p) h)
    by false h = absurd cc
