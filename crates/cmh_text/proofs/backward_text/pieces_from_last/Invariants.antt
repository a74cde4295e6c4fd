use Rattle.std.proofs.Common.{◌≡◌, ◌++◌, reverse, vec_len}
use Rattle.std.specs.Prelude.{flat_map, string_bytes}
use Rattle.cmh_text.proofs.backward_text.pieces_from_last.Given as goal

abbrev pub invariant-loop-next : goal.invariant-loop-next
invariant-loop-next l =
    l.pieces ++ flat_map (λ s. string_bytes s) (reverse l.texts.items)
    ≡ flat_map (λ s. string_bytes s) (reverse l.fn.texts.items)

abbrev pub decreases-loop-next : goal.decreases-loop-next
decreases-loop-next l = vec_len l.texts
