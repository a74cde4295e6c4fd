use Rattle.std.proofs.Common.{subst, sym}
use Rattle.cmh_text.specs.LeaderReach.{HasOneMore, IsBaseFor}
use Rattle.cmh_text.proofs.group_lines.GroupLines.parts_from.Goals as goal

pub parts_beyond-requires : goal.parts_beyond-requires
parts_beyond-requires c =
    let leader = c.args.leader in
    record {
      base = subst (λ g. IsBaseFor g leader c.args.base.now) (sym c.self.view_is) c.requires.base;
      marks = c.in_ok-marks.ensures;
      more =
          subst (λ old. HasOneMore leader old c.in_ok-marks.marks.items) c.deref-2.ensures.value
          (subst (HasOneMore leader c.deref-2.result.now) c.deref-3.ensures.value
          (c.has_one_more.ensures c.if-has_one_more.true));
    }
