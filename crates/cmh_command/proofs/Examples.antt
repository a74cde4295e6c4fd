-- Worked lists of numbers, by computation.
use Rattle.std.proofs.Common.{◌≡◌, [], ◌∷◌, map, Some, refl, false}
use Rattle.std.specs.Prelude.{codes, slice_index_or}
use Rattle.cmh_command.specs.List.{items_of, is_number, number_of}

ones : map number_of (items_of (codes "1,1,1")) ≡ map Some (1 ∷ 1 ∷ 1 ∷ [])
unfolding is_number
ones = refl

leading_zeros : map number_of (items_of (codes "007")) ≡ map Some (7 ∷ [])
unfolding is_number
leading_zeros = refl

nothing : items_of (codes "") ≡ []
nothing = refl

empty_item : is_number (slice_index_or (items_of (codes "1,,2")) 1 []) ≡ false
unfolding is_number
empty_item = refl

last_item_empty : is_number (slice_index_or (items_of (codes "1,")) 1 []) ≡ false
unfolding is_number
last_item_empty = refl

signed : is_number (slice_index_or (items_of (codes "+1")) 0 []) ≡ false
unfolding is_number
signed = refl

largest : number_of (codes "18446744073709551615") ≡ Some 18446744073709551615
unfolding is_number
largest = refl

too_large : is_number (codes "18446744073709551616") ≡ false
unfolding is_number
too_large = refl
