-- What a snapshot holds.
use Rattle.std.specs.Prelude.{ℕ, List, slice_index_or, Option, None}
use Rattle.cmh_graph.specs.declared.verdict.Verdict.{Verdict}

-- the verdict of p in a snapshot; past the end there is none
abbrev pub verdict_at : List (Option Verdict) → ℕ → Option Verdict
verdict_at verdicts p = slice_index_or verdicts p None
