use Rattle.std.proofs.Common.{◌≡◌, ◌++◌}
use Rattle.std.specs.Prelude.{flat_map}
use Rattle.cmh_text.proofs.text.append_each.Given as goal

abbrev pub invariant-loop-text : goal.invariant-loop-text
invariant-loop-text l =
    l.pieces ++ flat_map (λ t. t) l.text-iterator.rest.items ≡ l.fn.pieces ++ flat_map (λ t. t) l.fn.texts.items
