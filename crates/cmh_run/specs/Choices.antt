-- Runs that follow a list of choices.
use Rattle.std.specs.Prelude.{◌≡◌, ℕ, ◌%◌, ◌==◌, List, [], ◌∷◌, length, slice_index, None, ⊤}
use Rattle.cmh_run.specs.declared.delivery.Delivery.{Delivery}
use Rattle.cmh_run.specs.Legal.{Rule}

-- x is the next choice, which is 0 past the end of the list, modulo the number of undelivered messages
abbrev pub chosen_place : List ℕ → Rule
chosen_place choices done c x = x == slice_index choices done % length c.bag

-- no delivery has a hint
abbrev pub HasNoHints : List Delivery → Type 0
HasNoHints [] = ⊤
HasNoHints (d ∷ rest) = (d.hint ≡ None) × HasNoHints rest
