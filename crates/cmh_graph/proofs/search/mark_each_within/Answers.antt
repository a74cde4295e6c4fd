use Rattle.std.proofs.Common.{◌≡◌, ◌∙◌, ap, arith, false, get_or, true}
use Rattle.cmh_graph.specs.Search.{is_marked}
use Rattle.cmh_graph.proofs.PositionLemmas.{marks_inside_kept, marks_inside_more, marks_outside}
use Rattle.cmh_graph.proofs.search.mark_each_within.Goals as goal
use Rattle.cmh_graph.proofs.search.mark_each_within.Goals.{then-inside-p+then-not-marks-p+in_ok-push, else-inside-p, else-inside-p-via-then-inside-p+else-not-marks-p, else-inside-p-via-else-inside-p}

pub loop-p-preserved : goal.loop-p-preserved
loop-p-preserved c =
    let within = c.requires.listed c.loop-p.p-index 0 c.loop-p-test.true in
    let inside = is_marked c.args.inside.now in
    elim c.if-inside-p.branch [
      | then-inside-p+then-not-marks-p+in_ok-push w ↦
          let is_inside : is_marked c.args.inside.now (get_or c.args.list.now c.loop-p.p-index 0) ≡ true =
          w.if-inside-p.true in
          let unmarked : is_marked c.loop-p.marks (get_or c.args.list.now c.loop-p.p-index 0) ≡ false =
          w.if-not-marks-p.true in
          marks_inside_more inside _ _ _ _ _ _ _ _ c.loop-p-test.true c.loop-p.invariant is_inside
          (omega (arith, within, c.loop-p.invariant.size)) unmarked w.marks-is
          (ap (λ v. v.items) w.pending-is ∙ w.in_ok-push.ensures.items)
      | else-inside-p w ↦ elim w.else-inside-p.branch [
        | else-inside-p-via-then-inside-p+else-not-marks-p v ↦
            let is_inside : is_marked c.args.inside.now (get_or c.args.list.now c.loop-p.p-index 0) ≡ true =
            v.if-inside-p.true in
            let marked : is_marked c.loop-p.marks (get_or c.args.list.now c.loop-p.p-index 0) ≡ true =
            v.if-not-marks-p.false in
            marks_inside_kept inside _ _ _ _ _ _ _ _ c.loop-p-test.true c.loop-p.invariant is_inside marked w.marks-is
            (ap (λ v. v.items) w.pending-is)
        | else-inside-p-via-else-inside-p v ↦
            let is_outside : is_marked c.args.inside.now (get_or c.args.list.now c.loop-p.p-index 0) ≡ false =
            v.if-inside-p.false in
            marks_outside inside _ _ _ _ _ _ _ _ c.loop-p-test.true c.loop-p.invariant is_outside w.marks-is
            (ap (λ v. v.items) w.pending-is)
      ]
    ]
