use Rattle.std.proofs.Common.{◌≡◌, ◌∙◌, ap, arith, false, get_or, true}
use Rattle.cmh_graph.specs.Search.{is_marked}
use Rattle.cmh_graph.proofs.PositionLemmas.{marks_kept_more, marks_more}
use Rattle.cmh_graph.proofs.search.mark_each.Goals as goal
use Rattle.cmh_graph.proofs.search.mark_each.Goals.{then-not-marks-p+in_ok-push, else-not-marks-p}

pub loop-p-preserved : goal.loop-p-preserved
loop-p-preserved c =
    let within = c.requires c.loop-p.p-index 0 c.loop-p-test.true in
    elim c.if-not-marks-p.branch [
      | then-not-marks-p+in_ok-push w ↦
          let unmarked : is_marked c.loop-p.marks (get_or c.args.list.now c.loop-p.p-index 0) ≡ false =
          w.if-not-marks-p.true in
          marks_more _ _ _ _ _ _ _ _ c.loop-p-test.true c.loop-p.invariant
          (omega (arith, within, c.loop-p.invariant.size)) unmarked w.marks-is
          (ap (λ v. v.items) w.pending-is ∙ w.in_ok-push.ensures.items)
      | else-not-marks-p w ↦
          let marked : is_marked c.loop-p.marks (get_or c.args.list.now c.loop-p.p-index 0) ≡ true =
          w.if-not-marks-p.false in
          marks_kept_more _ _ _ _ _ _ _ _ c.loop-p-test.true c.loop-p.invariant marked w.marks-is
          (ap (λ v. v.items) w.pending-is)
    ]
