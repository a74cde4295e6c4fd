-- What contracts say of an index of names.
use Rattle.std.specs.Prelude.{ℕ, List, length, find, Option}
use Rattle.std.specs.List.{range_with_len}
use Rattle.cmh_dump.specs.Name.{repeats}

-- the place of the first name that equals an earlier one
abbrev pub first_repeat : List (List ℕ) → Option ℕ
first_repeat names = find (repeats names) (range_with_len 0 (length names))
