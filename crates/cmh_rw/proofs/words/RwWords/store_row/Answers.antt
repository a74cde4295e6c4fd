use Rattle.std.proofs.Common.{◌≡◌, ◌<◌, rules, arith, ap, sym, ◌∙◌, subst}
use Rattle.cmh_graph.specs.declared.TheConstants.{MAX_PROCESSES}
use Rattle.cmh_rw.specs.History.{row_of}
use Rattle.cmh_rw.specs.View.{row, with_row}
use Rattle.cmh_rw.proofs.Moments.{TableSeat}
use Rattle.cmh_rw.proofs.Codes.{row_code_law}
use Rattle.cmh_rw.proofs.StoreSteps.{stages}
use Rattle.cmh_rw.proofs.Room.{Fits, row_has_word, fits_with_row}
use Rattle.cmh_rw.proofs.words.RwWords.store_row.Goals as goal

pub overflow_add-n : goal.overflow_add-n
overflow_add-n c = let s = c.args.seat.now in
    let low : c.args.n < MAX_PROCESSES =
    row_has_word s.seat.me.0 (row c.args.p c.args.verdict c.args.last) c.args.n c.requires.can c.requires.end
    s.fits in
    omega arith

pub store-requires : goal.store-requires
store-requires c = let s = c.args.seat.now in let wide = c.args.self.now.wide in
    let low : c.args.n < MAX_PROCESSES =
    row_has_word s.seat.me.0 (row c.args.p c.args.verdict c.args.last) c.args.n c.requires.can c.requires.end
    s.fits in
    rw c.code.ensures (
      search rules,
      omega arith,
      stages _ _ _ c.args.n (row c.args.p c.args.verdict c.args.last) _ c.requires.writing c.requires.loaded
          c.requires.can c.requires.end low,
    )

pub invariant_of-seat : goal.invariant_of-seat
invariant_of-seat c =
    let s = c.args.seat.now in let v = s.seat.me.0 in let r = row c.args.p c.args.verdict c.args.last in
    let told : c.store.new.seat.me ≡ (with_row v r, s.seat.me.1) =
    c.store.ensures.2 ∙ ap (λ q. (with_row v q, s.seat.me.1)) (ap row_of c.code.ensures ∙ row_code_law r) in
    record {
      shared = s.shared ∙ sym (ap (λ (m : TableSeat). m.0.lock.share) told);
      some = s.some;
      few = s.few;
      bare = ap (λ (m : TableSeat). m.1) told ∙ s.bare;
      fits = subst (λ (m : TableSeat). Fits m.0) (sym told) (fits_with_row v r c.requires.can s.fits);
    }

pub returns-clause-room : goal.returns-clause-room
returns-clause-room c =
    row_has_word c.args.seat.now.seat.me.0 (row c.args.p c.args.verdict c.args.last) c.args.n c.requires.can
    c.requires.end c.args.seat.now.fits
