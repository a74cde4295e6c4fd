use Rattle.std.proofs.Common.{arith, ap, ◌∙◌}
use Rattle.cmh_graph.proofs.PositionLemmas.{unnumbered, numbers_more, numbers_kept_more}
use Rattle.cmh_graph.proofs.search.number_each.Goals as goal
use Rattle.cmh_graph.proofs.search.number_each.Goals.{then-is_none+in_ok-push, else-is_none}

pub loop-p-preserved : goal.loop-p-preserved
loop-p-preserved c =
    let within = c.requires c.loop-p.p-index 0 c.loop-p-test.true in
    elim c.if-is_none.branch [
      | then-is_none+in_ok-push w ↦
          numbers_more _ _ _ _ _ _ _ _ _ c.loop-p-test.true c.loop-p.invariant
          (omega (arith, within, c.loop-p.invariant.size)) (unnumbered _ w.if-is_none.ensures) w.distances-is
          (ap (λ v. v.items) w.next-is ∙ w.in_ok-push.ensures.items)
      | else-is_none w ↦
          numbers_kept_more _ _ _ _ _ _ _ _ _ c.loop-p-test.true c.loop-p.invariant w.if-is_none.ensures w.distances-is
          (ap (λ v. v.items) w.next-is)
    ]
