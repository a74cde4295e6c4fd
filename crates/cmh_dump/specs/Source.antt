-- What contracts say of reading a source to its end.
use Rattle.std.specs.Prelude.{◌≡◌, ℕ, ◌≤◌, List, ◌++◌, length}
use Rattle.cmh_stream.specs.Device.{SourceState}

-- the source gave at most n bytes more
abbrev pub GaveAtMost : ℕ → SourceState → SourceState → Type 0
GaveAtMost n old new = (bytes : List ℕ) × (new.given ≡ old.given ++ bytes) × (length bytes ≤ n)
