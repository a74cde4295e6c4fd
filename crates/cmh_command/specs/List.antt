-- Lists of numbers on the command line: items separated by one comma. The empty text has no item.
use Rattle.std.specs.Prelude.{◌≡◌, ℕ, ◌<◌, ◌≤◌, ◌^◌, ◌==◌, ◌&&◌, Bool, List, [], ◌∷◌, length, map, nat_lt, slice_index_or, Option, Some, None, if◌then◌else◌, IsTrue, IsFalse, ◌++◌, codes}
use Rattle.std.specs.Fmt.{decimal}
use Rattle.std.specs.List.{slice_split}
use Rattle.std.specs.Str.{all_ascii_digits}
use Rattle.std.specs.Str.Parse.{digits_value}
use Rattle.cmh_command.specs.declared.TheConstants.{MAX_NUMBERS}
use Rattle.cmh_command.specs.declared.list.ListFault.{ListFault}
use Rattle.cmh_command.specs.declared.list.ListFault.TheVariants.{BadNumber, TooManyNumbers, Memory}

-- the items of a text
abbrev pub items_of : List ℕ → List (List ℕ)
items_of [] = []
items_of (b ∷ bs) = slice_split (λ c. c == 44) (b ∷ bs)

-- a number is one or more decimal digits with a value that fits 64 bits
unfoldable pub is_number : List ℕ → Bool
is_number item =
    nat_lt 0 (length item) && all_ascii_digits item && nat_lt (digits_value 10 item) (2 ^ 64)

-- the number that an item writes, if it writes one
abbrev pub number_of : List ℕ → Option ℕ
number_of item = if is_number item then Some (digits_value 10 item) else None

-- the text is a list, and these are its numbers
pub record IsListOf (text numbers : List ℕ) : Type 0 where
  pub few : length (items_of text) ≤ MAX_NUMBERS
  pub written : map number_of (items_of text) ≡ map Some numbers

-- the first fault from the left: an item that is no number, or one too many, whatever it holds; each item before it is
-- a number
abbrev pub IsFirstListFault : List ℕ → ListFault → Type 0
IsFirstListFault text (BadNumber i) = (i < MAX_NUMBERS) × (i < length (items_of text))
    × IsFalse (is_number (slice_index_or (items_of text) i []))
    × ((k : ℕ) → k < i → IsTrue (is_number (slice_index_or (items_of text) k [])))
IsFirstListFault text TooManyNumbers = (MAX_NUMBERS < length (items_of text))
    × ((k : ℕ) → k < MAX_NUMBERS → IsTrue (is_number (slice_index_or (items_of text) k [])))
IsFirstListFault text Memory = ⊥

-- what is printed of a fault
abbrev pub list_fault_text : ListFault → List ℕ
list_fault_text (BadNumber i) = codes "bad number " ++ decimal i
list_fault_text TooManyNumbers = codes "too many numbers"
list_fault_text Memory = codes "out of memory"
