use Rattle.std.proofs.Common.{◌∙◌, ◌++◌, ◌∷◌, [], ap, arith, eqb, length, sym}
use Rattle.std.proofs.lemmas.List.FromFn.{map-range_with_len_more}
use Rattle.cmh_graph.specs.Search.{predecessors_at}
use Rattle.cmh_graph.proofs.graph.WaitGraph.marks_without_predecessors.Goals as goal

pub loop-p-preserved : goal.loop-p-preserved
loop-p-preserved c =
    c.in_ok-push.ensures.items
    ∙ (λ i. c.loop-p.invariant i ++ (c.is_empty.ensures ∙ ap (λ xs. eqb (length xs) 0) c.at.ensures) i ∷ [])
    ∙ sym (map-range_with_len_more
    (λ p. eqb (length (predecessors_at c.args.predecessors.now p)) 0) 0 c.loop-p.p c.loop-p.p (omega arith))
