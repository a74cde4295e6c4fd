-- Which of several things is the first, by keys that are lists of numbers.
use Rattle.std.specs.Prelude.{ℕ, Bool, List, IsFalse}
use Rattle.std.specs.Ordering.{nat_cmp, is_lt}
use Rattle.std.specs.Cmp.Lexicographic.{slice_cmp}

-- one key goes before another: by their first numbers, where these are the same by the second, and so on
abbrev pub comes_before : List ℕ → List ℕ → Bool
comes_before a b = is_lt (slice_cmp nat_cmp a b)

-- x is one of these, and the key of none of them comes before its own
pub record IsFirstBy {F : Type 0} (key : F → List ℕ) (These : F → Type 0) (x : F) : Type 0 where
  pub had : These x
  pub first : (other : F) → These other → IsFalse (comes_before (key other) (key x))
