-- The sink took the pieces so far, a sink that had failed before took nothing, and one that took something isn't
-- finished.
use Rattle.std.proofs.Common.{◌≡◌, ◌++◌, length, take, flat_map, true}
use Rattle.std.specs.Prelude.{string_bytes}
use Rattle.std.specs.Io.KnownBytes.{Appends}
use Rattle.cmh_stream.proofs.put.put_pieces.Given as goal

abbrev pub invariant-loop-piece : goal.invariant-loop-piece
invariant-loop-piece g l = record {
  written : l.written ≡ length (flat_map (λ s. string_bytes s) (take l.piece-index l.pieces));
  taken : (g.K.Sink.state l.sink).taken ≡ (g.K.Sink.state l.initial.sink).taken
      ++ flat_map (λ s. string_bytes s) (take l.piece-index l.pieces);
  known : Appends (g.K.Sink.contents l.initial.sink) (g.K.Sink.contents l.sink)
      (flat_map (λ s. string_bytes s) (take l.piece-index l.pieces));
  failed : (g.K.Sink.state l.initial.sink).has_failed ≡ true
      → (l.written ≡ 0) × ((g.K.Sink.state l.sink).has_failed ≡ true);
  finished : (g.K.Sink.state l.sink).is_finished ≡ true
      → ((g.K.Sink.state l.initial.sink).is_finished ≡ true) × (l.written ≡ 0);
}
