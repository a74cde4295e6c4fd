use Rattle.std.proofs.Common.{rules}
use Rattle.atomic_table.proofs.Lists.{at_index}
use Rattle.cmh_rw.proofs.Lawful.{lock_word-small, lock-turn}
use Rattle.cmh_rw.proofs.machine.LockWorld.step.Goals as goal

pub turn-requires : goal.turn-requires
turn-requires c = lock_word-small _ c.self.invariant

pub invariant_of-self : goal.invariant_of-self
invariant_of-self c = let l = c.self.inside.seats.items in let i = c.seat_number-seat.result in
    rw c.turn.ensures
    (lock-turn c.args.event c.self.inside.word i l c.index.result.now
    (at_index l i c.index.result.now (search rules) c.index.ensures) c.self.invariant)
