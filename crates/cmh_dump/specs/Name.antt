-- Names of sites and processes, and lists of names.
use Rattle.std.specs.Prelude.{ℕ, ◌&&◌, ◌||◌, ◌==◌, List, [], length, take, slice_index, slice_index_or, Bool, nat_le, codes, bytes_eq}
use Rattle.std.specs.Char.{is_ascii_alphanumeric}
use Rattle.std.specs.List.{list_all, list_any, position_or_len}
use Rattle.cmh_dump.specs.declared.TheConstants.{MAX_NAME}

-- a letter, a digit, or one of `_ - . : /`
abbrev pub is_name_byte : ℕ → Bool
is_name_byte b = is_ascii_alphanumeric b || list_any (λ c. c == b) (codes "_-.:/")

-- 1 to `MAX_NAME` of these bytes, of which the first is a letter or a digit
abbrev pub is_name : List ℕ → Bool
is_name text =
    nat_le 1 (length text) && nat_le (length text) MAX_NAME
    && is_ascii_alphanumeric (slice_index text 0) && list_all is_name_byte text

-- the name is one of the names
abbrev pub is_among : List (List ℕ) → List ℕ → Bool
is_among names name = list_any (bytes_eq name) names

-- the place of the first equal name, or the number of names where there is none
abbrev pub place_of : List (List ℕ) → List ℕ → ℕ
place_of names name = position_or_len (bytes_eq name) names

-- the i-th name equals an earlier one
abbrev pub repeats : List (List ℕ) → ℕ → Bool
repeats names i = is_among (take i names) (slice_index_or names i [])
