use Rattle.std.proofs.Common.{◌≡◌, replicate}
use Rattle.cmh_rw.specs.declared.machine.SeatState.TheVariants.{Away}
use Rattle.cmh_rw.proofs.machine.LockWorld.new.Given as goal

abbrev pub invariant-loop : goal.invariant-loop
invariant-loop l = l.states.items ≡ replicate l.counter Away
