use Rattle.cmh_plan.specs.TicketSeats.{IsTicketSeatOf}
use Rattle.cmh_tests.proofs.plan.tickets.thousands_of_numbers.Given as goal

abbrev pub invariant-loop-n : goal.invariant-loop-n
invariant-loop-n g l = IsTicketSeatOf l.tickets l.seat
