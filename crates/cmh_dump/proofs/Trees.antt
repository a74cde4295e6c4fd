-- The tree of bytes, and the elements and texts of its arrays, from what the reader says of them.
use Rattle.std.proofs.Common.{◌≡◌, ℕ, List, [], ◌∷◌, ◌&&◌, map, length, eqb, Bool, true, false, cond, Option, Some, None, refl, sym, ap, ◌∙◌}
use Rattle.std.specs.Str.{IsUtf8, is_utf8}
use Rattle.std.proofs.lemmas.Str.{IsUtf8-from_is_utf8, is_utf8-from_IsUtf8}
use Rattle.std.specs.Prelude.{is_some}
use Rattle.std.specs.Option.{option_map_or}
use Rattle.std.specs.List.{list_all}
use Rattle.std.proofs.lemmas.List.{length-map}
use Rattle.serde_json.specs.Data.{Data, Items}
use Rattle.serde_json.specs.Find.{as_array, as_str}
use Rattle.serde_json.specs.View.{items_of}
use Rattle.serde_json.specs.Read.{read}
use Rattle.cmh_dump.specs.Dump.{tree_of}
use Rattle.cmh_dump.specs.Tree.{list_of, elements_of, text_of}
use Rattle.cmh_dump.specs.Entry.{is_pair}

-- UTF-8 that reads as a tree has that tree
pub tree_is : (bytes : List ℕ) (d : Data) → IsUtf8 bytes → read bytes ≡ Some d → tree_of bytes ≡ Some d
tree_is bytes d utf8 e = ap (λ b. cond b (read bytes) None) (is_utf8-from_IsUtf8 bytes utf8) ∙ e

-- bytes that are no UTF-8, or do not read, have no tree
pub no_tree : (bytes : List ℕ) → (IsUtf8 bytes → read bytes ≡ None) → tree_of bytes ≡ None
no_tree bytes refused = by (is_utf8 bytes) refl
  where
    by : (b : Bool) → is_utf8 bytes ≡ b → tree_of bytes ≡ None
    by true e = ap (λ b. cond b (read bytes) None) e ∙ refused (IsUtf8-from_is_utf8 bytes e)
    by false e = ap (λ b. cond b (read bytes) None) e

-- a list that is made into items and back is the list itself
pub list_of-items_of : (ds : List Data) → list_of (items_of ds) ≡ ds
list_of-items_of [] = refl
list_of-items_of (d ∷ ds) = ap (λ es. d ∷ es) (list_of-items_of ds)

-- the elements of an array are the items that the reader gives
pub elements_of_items : (d : Data) (ds : List Data) → Some (items_of ds) ≡ as_array d → ds ≡ elements_of d
elements_of_items d ds e =
    sym (list_of-items_of ds) ∙ ap (λ (o : Option Items). option_map_or list_of o []) e

-- a list mapped by one function after another is mapped by both at once
pub map-map : {X Y Z : Type 0} (g : Y → Z) (f : X → Y) (xs : List X) → map (λ x. g (f x)) xs ≡ map g (map f xs)
map-map g f [] = refl
map-map g f (x ∷ xs) = ap (λ ys. g (f x) ∷ ys) (map-map g f xs)

-- the texts of values are those of the elements that they are seen as
pub texts_of_views : {V : Type 0} (view : V → Data) (vs : List V) (d : Data) → map view vs ≡ elements_of d
    → map (λ v. text_of (view v)) vs ≡ map text_of (elements_of d)
texts_of_views view vs d e = map-map text_of view vs ∙ ap (map text_of) e

-- a test of what a function makes of each element is a test of the mapped list
pub all-map : {X Y : Type 0} (test : Y → Bool) (f : X → Y) (xs : List X)
    → list_all (λ x. test (f x)) xs ≡ list_all test (map f xs)
all-map test f [] = refl
all-map test f (x ∷ xs) = ap (λ b. test (f x) && b) (all-map test f xs)

-- an array of two elements is a pair just where all its values are texts
pub is_pair_of : {V : Type 0} (view : V → Data) (vs : List V) (d : Data) → map view vs ≡ elements_of d → length vs ≡ 2
    → list_all (λ v. is_some (as_str (view v))) vs ≡ is_pair d
is_pair_of view vs d e two =
    all-map (λ x. is_some (as_str x)) view vs ∙ ap (list_all (λ x. is_some (as_str x))) e
    ∙ sym
    (ap (λ n. eqb n 2 && list_all (λ x. is_some (as_str x)) (elements_of d))
    (ap length (sym e) ∙ length-map vs view ∙ two))
