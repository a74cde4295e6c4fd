-- What the words show once they are closed.
use Rattle.std.specs.Prelude.{◌≡◌, ℕ, ◌+◌, ◌<◌, ◌^◌, List, map, length, slice_index}
use Rattle.cmh_rw.specs.declared.TheConstants.{ROW_COUNT, FIRST_ROW}
use Rattle.cmh_rw.specs.declared.row.Row.{Row}
use Rattle.cmh_rw.specs.History.{row_code, row_words}

-- the words show these rows: how many, and each by its word
pub record ShowsRows (words : List ℕ) (rows : List Row) : Type 0 where
  pub count : slice_index words ROW_COUNT ≡ length rows
  pub few : length rows < 2 ^ 32
  pub row : (n : ℕ) → n < length rows →
      slice_index words (FIRST_ROW + n) ≡ slice_index (map row_code rows) n
  pub small : (n : ℕ) → n < length rows → slice_index (map row_code rows) n < row_words
