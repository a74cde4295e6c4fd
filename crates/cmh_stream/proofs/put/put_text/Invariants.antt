-- The sink took a prefix of the text, a sink that had failed before took nothing, and one that took something isn't
-- finished.
use Rattle.std.proofs.Common.{◌≡◌, ◌-◌, ◌≤◌, ◌++◌, length, take, true}
use Rattle.std.specs.Io.KnownBytes.{Appends}
use Rattle.cmh_stream.proofs.put.put_text.Given as goal

abbrev pub invariant-loop-written : goal.invariant-loop-written
invariant-loop-written g l = record {
  within : l.written ≤ length l.bytes;
  taken : (g.K.Sink.state l.sink).taken ≡ (g.K.Sink.state l.initial.sink).taken ++ take l.written l.bytes;
  known : Appends (g.K.Sink.contents l.initial.sink) (g.K.Sink.contents l.sink)
      (take l.written l.bytes);
  failed : (g.K.Sink.state l.initial.sink).has_failed ≡ true
      → (l.written ≡ 0) × ((g.K.Sink.state l.sink).has_failed ≡ true);
  finished : (g.K.Sink.state l.sink).is_finished ≡ true
      → ((g.K.Sink.state l.initial.sink).is_finished ≡ true) × (l.written ≡ 0);
}

abbrev pub decreases-loop-written : goal.decreases-loop-written
decreases-loop-written g l = length l.bytes - l.written
