use Rattle.cmh_rw.specs.Seats.{IsSeatOf, IsRwSeatAway}
use Rattle.cmh_tests.proofs.rw.threads.write_turns.Given as goal

abbrev pub invariant-loop : goal.invariant-loop
invariant-loop l = IsSeatOf l.words l.seat × IsRwSeatAway l.seat
