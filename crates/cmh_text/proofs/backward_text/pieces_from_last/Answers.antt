use Rattle.std.proofs.Common.{◌≡◌, ◌∙◌, ◌++◌, ◌∷◌, [], ap, reverse}
use Rattle.std.specs.Prelude.{flat_map, option_to_list, string_bytes}
use Rattle.cmh_text.proofs.JoinedTexts.{last_appended}
use Rattle.cmh_text.proofs.backward_text.pieces_from_last.Goals as goal

pub loop-next-preserved : goal.loop-next-preserved
loop-next-preserved c =
    let left = c.pop.new.self.items in
    let popped : c.loop-next.texts.items ≡ left ++ c.in-Some.next ∷ [] =
    c.pop.ensures.items ∙ ap (λ o. left ++ option_to_list o) c.in-Some.is in
    ap (λ xs. xs ++ flat_map (λ s. string_bytes s) (reverse left)) c.in_ok-push.ensures.added
    ∙ last_appended (λ s. string_bytes s) c.loop-next.pieces c.in-Some.next c.loop-next.texts.items left popped
    ∙ c.loop-next.invariant
