use Rattle.std.proofs.Common.{◌∙◌, ◌++◌, ◌∷◌, ◌<◌, [], ap, get_or, subst}
use Rattle.cmh_text.proofs.Beyond.{parts_beyond}
use Rattle.cmh_text.proofs.leader_reach.reach_beyond.Goals as goal

pub returns-then-is_before : goal.returns-then-is_before
returns-then-is_before c =
    let leader = c.args.leader in
    let by = parts_beyond c.args.graph.now leader c.args.base.now c.args.marks.now c.law_built_graph.ensures.within
    c.requires.base.within c.requires.base.known c.requires.base.beyond c.requires.marks c.requires.more in
    let first = c.in_ok-push.ensures.items ∙ ap (λ xs. xs ++ leader ∷ []) c.in_ok-reach.ensures.items in
    c.in_ok-extend_from_slice.ensures.items
    ∙ (λ i. first i ++ c.deref-then-is_before.ensures.value i)
    ∙ by.reach (subst (λ xs. leader < get_or xs 0 0) c.deref.ensures.value (c.is_before.ensures c.if-is_before.true))
