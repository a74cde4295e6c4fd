use Rattle.std.proofs.Common.{◌≡◌, rules, arith, ap, ◌∙◌}
use Rattle.cmh_rw.specs.View.{view_after_compare, view_before_compare}
use Rattle.cmh_rw.proofs.Moments.{TableSeat}
use Rattle.cmh_rw.proofs.Room.{fits_joined, joined_begins}
use Rattle.cmh_rw.proofs.SeatSteps.{joins, compares}
use Rattle.cmh_rw.proofs.words.RwWords.join.Goals as goal

pub join_seat-requires : goal.join_seat-requires
join_seat-requires c =
    (search rules, search rules, search rules, search rules, joins _ _ _ _ _ c.requires.away.0 c.requires.away.1)

pub load-requires : goal.load-requires
load-requires c = (
  search rules,
  search rules,
  compares _ _ _ _ (ap (λ (m : TableSeat). m.0.lock.state) c.join_seat.ensures.2 ∙ c.requires.away.0),
)

pub invariant_of-seat : goal.invariant_of-seat
invariant_of-seat c = let s = c.args.seat.now in let o = c.args.other in let v = s.seat.me.0 in let w = o.seat.me.0 in
    let first : c.join_seat.new.seat.me ≡ (view_before_compare v w, s.seat.me.1) = c.join_seat.ensures.2 in
    let told : c.load.new.seat.me ≡ (view_after_compare (view_before_compare v w), s.seat.me.1) =
    c.load.ensures.2.0 ∙ ap (λ (m : TableSeat). (view_after_compare m.0, m.1)) first in
    let share = ap (λ (m : TableSeat). m.0.lock.share) told in
    let sum = ap (λ (m : TableSeat). m.0.lock.share) first in
    let few = c.load.ensures.2.3 in
    let mine = s.shared in let theirs = o.shared in let some = s.some in record {
      shared = omega arith;
      some = omega arith;
      few = omega arith;
      bare = ap (λ (m : TableSeat). m.1) told ∙ s.bare;
      fits =
          fits_joined v w c.join_seat.new.seat.me.0 c.load.new.seat.me.0 (ap (λ (m : TableSeat). m.0) first)
          (ap (λ (m : TableSeat). m.0) told) c.load.ensures.2.2 s.fits;
    }

pub returns-clause-begins : goal.returns-clause-begins
returns-clause-begins c = let s = c.args.seat.now in let v = s.seat.me.0 in let w = c.args.other.seat.me.0 in
    let first : c.join_seat.new.seat.me ≡ (view_before_compare v w, s.seat.me.1) = c.join_seat.ensures.2 in
    let told : c.load.new.seat.me ≡ (view_after_compare (view_before_compare v w), s.seat.me.1) =
    c.load.ensures.2.0 ∙ ap (λ (m : TableSeat). (view_after_compare m.0, m.1)) first in
    joined_begins v w c.join_seat.new.seat.me.0 c.load.new.seat.me.0 (ap (λ (m : TableSeat). m.0) first)
    (ap (λ (m : TableSeat). m.0) told) c.load.ensures.2.1
