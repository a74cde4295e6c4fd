-- What stands at a place of a tree of JSON. A place that isn't there, or has another kind, reads as empty.
use Rattle.std.specs.Prelude.{ℕ, ◌&&◌, ◌||◌, List, [], ◌∷◌, Bool, map, is_some, unwrap_or}
use Rattle.std.specs.List.{list_all}
use Rattle.std.specs.Option.{option_map_or}
use Rattle.serde_json.specs.Data.{Data, null, Items, no_items, item, Members, no_members, member}
use Rattle.serde_json.specs.Find.{get, as_str, as_array, as_object}
use Rattle.cmh_dump.specs.Name.{is_among}

-- the elements of an array as a list
abbrev pub list_of : Items → List Data
list_of no_items = []
list_of (item d ds) = d ∷ list_of ds

-- the keys of an object as a list
abbrev pub keys_of : Members → List (List ℕ)
keys_of no_members = []
keys_of (member k d ms) = k ∷ keys_of ms

-- the text that the data are, or the empty one
abbrev pub text_of : Data → List ℕ
text_of d = unwrap_or (as_str d) []

-- the elements of the array that the data are, or none
abbrev pub elements_of : Data → List Data
elements_of d = option_map_or list_of (as_array d) []

-- the elements of the array that the data are, as texts
abbrev pub texts_of : Data → List (List ℕ)
texts_of d = map text_of (elements_of d)

-- the member of the object at the key, or null
abbrev pub at_key : List ℕ → Data → Data
at_key k d = unwrap_or (get k d) null

-- an array stands at the key
abbrev pub has_array : List ℕ → Data → Bool
has_array k d = is_some (as_array (at_key k d))

-- an object that has each of the first keys, maybe some of the second, and no others
abbrev pub has_keys : List (List ℕ) → List (List ℕ) → Data → Bool
has_keys needed allowed d =
    is_some (as_object d) && list_all (λ k. is_some (get k d)) needed
    && list_all (λ k. is_among needed k || is_among allowed k) (option_map_or keys_of (as_object d) [])
