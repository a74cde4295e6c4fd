use Rattle.std.proofs.Common.{◌≡◌, ◌+◌, ◌-◌, ◌≤◌, ◌<◌, ◌++◌, length, vec_len, false}
use Rattle.std.specs.Io.KnownBytes.{Consumes}
use Rattle.cmh_dump.specs.declared.TheConstants.{MAX_BYTES}
use Rattle.cmh_dump.proofs.source.read_all.Given as goal

-- what was given since the call is kept, and fits
abbrev pub invariant-loop-chunk : goal.invariant-loop-chunk
invariant-loop-chunk g l = record {
  given : (g.S.Source.state l.source).given ≡ (g.S.Source.state l.initial.source).given ++ l.bytes.items;
  known : Consumes (g.S.Source.remaining l.initial.source) (g.S.Source.remaining l.source) l.bytes.items;
  works : 0 < length l.bytes.items → (g.S.Source.state l.source).has_failed ≡ false;
  fits : length l.bytes.items ≤ (MAX_BYTES + 1);
}

abbrev pub decreases-loop-chunk : goal.decreases-loop-chunk
decreases-loop-chunk g l = (MAX_BYTES + 1) - vec_len l.bytes
