use Rattle.std.proofs.Common.{◌≡◌, flat_map}
use Rattle.std.specs.Prelude.{string_bytes}
use Rattle.cmh_stream.proofs.pieces.Pieces.into_string.Given as goal

abbrev pub invariant-loop-piece : goal.invariant-loop-piece
invariant-loop-piece l = string_bytes l.text ≡ flat_map (λ s. string_bytes s) l.yielded
