use Rattle.std.proofs.Common.{◌∙◌, ◌++◌, [], ◌∷◌, ap, flat_map, reverse}
use Rattle.std.specs.Prelude.{string_bytes}
use Rattle.std.proofs.lemmas.List.{reverse-append}
use Rattle.cmh_text.proofs.backward_text.BackwardText.join.Goals as goal

pub returns : goal.returns
returns c =
    let before = c.self.inside.joined.items in
    let piece = c.in_ok-into_string.field-0 in
    let none = ap (λ v. v.items) c.replace-lines.ensures.after ∙ c.new.ensures.items in
    let lines = ap (λ v. flat_map (λ s. string_bytes s) (reverse v.items)) c.replace-lines.ensures.value in
    (λ i. flat_map (λ s. string_bytes s) (reverse (none i))
    ++ flat_map (λ s. string_bytes s) (reverse (c.in_ok-push.ensures.items i)))
    ∙ ap (flat_map (λ s. string_bytes s)) (reverse-append before (piece ∷ []))
    ∙ ap (λ ys. ys ++ flat_map (λ s. string_bytes s) (reverse before))
    (c.in_ok-into_string.ensures ∙ c.in_ok-pieces_from_last.ensures ∙ lines)
    ∙ c.self.view_is
