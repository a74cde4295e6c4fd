use Rattle.std.proofs.Common.{rules, ◌≡◌, ap, ◌∙◌, cond, ltb, false, ◌+◌}
use Rattle.std.proofs.lemmas.Bool.{le-ltb}
use Rattle.cmh_rw.specs.declared.TheConstants.{WRITER}
use Rattle.cmh_rw.specs.declared.machine.SeatState.TheVariants.{Reading, Retreating}
use Rattle.cmh_rw.specs.declared.machine.Event.TheVariants.{Admit}
use Rattle.cmh_rw.specs.Machine.{reads, retreats, turn}
use Rattle.cmh_rw.proofs.LockSteps.{enters, leaves}
use Rattle.cmh_rw.proofs.words.RwWords.try_read.Goals as goal

pub fetch_add-found-requires : goal.fetch_add-found-requires
fetch_add-found-requires c = (search rules, search rules, enters _ _ _ _ c.requires.away)

pub fetch_sub-before-requires : goal.fetch_sub-before-requires
fetch_sub-before-requires c = let r = c.fetch_add-found.result in
    let high : ltb r WRITER ≡ false = le-ltb r WRITER c.if-found-lt-WRITER.false in
    let is : c.fetch_add-found.new.seat.me.0.lock.state ≡ Retreating =
    ap (λ m. m.0.lock.state) c.fetch_add-found.ensures.2 ∙ ap (λ a. (turn (Admit 0) r a).1) c.requires.away
    ∙ ap (λ b. cond b Reading Retreating) high in
    (search rules, search rules, leaves _ _ _ _ (ap (λ a. reads a + retreats a) is))
