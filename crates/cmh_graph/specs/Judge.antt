-- First places, for the judging of parts.
use Rattle.std.specs.Prelude.{◌≡◌, ◌⊎◌, ℕ, ◌<◌, ◌≤◌, List, length, slice_index}

-- a condition of places holds at i, and nowhere before
pub record IsFirst (Holds : ℕ → Type 0) (i : ℕ) : Type 0 where
  pub holds : Holds i
  pub first : (k : ℕ) → Holds k → i ≤ k

-- a condition of dependents holds at dependent j of i, at no earlier one of i, and at none of a process before i
pub record IsFirstDependent (Holds : ℕ → ℕ → Type 0) (i j : ℕ) : Type 0 where
  pub holds : Holds i j
  pub first : (k l : ℕ) → Holds k l → (i < k) ⊎ ((i ≡ k) × (j ≤ l))

-- the list has a dependent j, which equals an earlier one
abbrev pub IsRepeat : List ℕ → ℕ → Type 0
IsRepeat list j =
    (j < length list) × (k : ℕ) × (k < j) × (slice_index list k ≡ slice_index list j)
