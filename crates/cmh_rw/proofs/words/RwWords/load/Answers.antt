use Rattle.std.proofs.Common.{rules, ap, sym, ◌∙◌}
use Rattle.cmh_rw.specs.declared.view.View.{View}
use Rattle.cmh_rw.proofs.LoadSteps.{loads}
use Rattle.cmh_rw.proofs.Room.{fits_loaded}
use Rattle.cmh_rw.proofs.words.RwWords.load.Goals as goal

pub load-requires : goal.load-requires
load-requires c = (search rules, search rules, loads _ _ _ _ _ c.requires.held)

pub invariant_of-seat : goal.invariant_of-seat
invariant_of-seat c = let s = c.args.seat.now in let told = c.load.ensures.2 in record {
  shared = s.shared ∙ sym (ap (λ (v : View). v.lock.share) told.0.view);
  some = s.some;
  few = s.few;
  bare = told.1 ∙ s.bare;
  fits = fits_loaded s.seat.me.0 c.args.word c.load.result c.load.new.seat.me.0 told.0 s.fits;
}
