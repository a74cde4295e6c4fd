use Rattle.std.proofs.Common.{◌∙◌, ◌++◌, ◌∷◌, [], arith, sym}
use Rattle.std.proofs.lemmas.List.FromFn.{map-range_with_len_more}
use Rattle.cmh_graph.specs.Verdict.{verdict}
use Rattle.cmh_graph.proofs.graph.WaitGraph.verdicts_by.Goals as goal

pub loop-p-preserved : goal.loop-p-preserved
loop-p-preserved c =
    c.in_ok-push.ensures.items
    ∙ (λ i. c.loop-p.invariant i ++ c.verdict_by.ensures i ∷ [])
    ∙ sym (map-range_with_len_more (verdict c.args.self.now) 0 c.loop-p.p c.loop-p.p (omega arith))
