use Rattle.std.proofs.Common.{◌≡◌, take}
use Rattle.cmh_rw.specs.Machine.{run_from, new_world}
use Rattle.cmh_rw.proofs.machine.run_events.Given as goal

abbrev pub invariant-loop-event : goal.invariant-loop-event
invariant-loop-event l = l.world ≡ run_from (new_world l.seats) (take l.event-index l.events)
