use Rattle.std.proofs.Common.{rules, arith, ap, sym, subst}
use Rattle.cmh_rw.proofs.Moments.{TableSeat}
use Rattle.cmh_rw.proofs.Room.{Fits, fits_newcomer}
use Rattle.cmh_rw.proofs.SeatSteps.{splits}
use Rattle.cmh_rw.proofs.words.RwWords.split.Goals as goal

pub split_seat-other-requires : goal.split_seat-other-requires
split_seat-other-requires c = let s = c.args.seat.now in let share = s.shared in let some = s.some in
    (search rules, search rules, splits _ _ _ c.requires.away (omega (arith, c.if-seat-eq1.false)))

pub invariant_of-result : goal.invariant_of-result
invariant_of-result c =
    let s = c.args.seat.now in let v = s.seat.me.0 in let told = c.split_seat-other.ensures.4 in record {
      shared = sym (ap (λ (m : TableSeat). m.0.lock.share) told);
      some = omega arith;
      few = omega arith;
      bare = ap (λ (m : TableSeat). m.1) told;
      fits = subst (λ (m : TableSeat). Fits m.0) (sym told) (fits_newcomer v.lock.graph v.seen v.staged s.fits);
    }
