-- How the initiators are cut into chunks.
use Rattle.std.specs.Prelude.{ℕ, ◌+◌, min, List, [], ◌∷◌, ◌++◌, take, drop, slice_index_or}

-- each cut takes this number off the front, or all that are left; the rest is the last chunk
abbrev pub chunks_of : List ℕ → List ℕ → List (List ℕ)
chunks_of [] list = list ∷ []
chunks_of (cut ∷ cuts) list = take cut list ∷ chunks_of cuts (drop cut list)

-- where each chunk of a list of this size ends, where the first of them begins at `begin`
abbrev pub ends_from : ℕ → ℕ → List ℕ → List ℕ
ends_from size begin [] = size ∷ []
ends_from size begin (cut ∷ cuts) = min (begin + cut) size ∷ ends_from size (min (begin + cut) size) cuts

-- where each chunk of a list of this size begins, and where the last one ends
abbrev pub bounds_of : List ℕ → ℕ → List ℕ
bounds_of cuts size = 0 ∷ ends_from size 0 cuts

-- the chunks of these numbers, end to end
abbrev pub concat_chunks : List (List ℕ) → List ℕ → List ℕ
concat_chunks chunks [] = []
concat_chunks chunks (number ∷ numbers) = slice_index_or chunks number [] ++ concat_chunks chunks numbers
