-- Workers that go on.
use Rattle.std.proofs.Common.{◌≡◌, ℕ, ◌∙◌, ap}
use Rattle.cmh_plan.specs.declared.tickets.TicketSeat.{TicketSeat}
use Rattle.cmh_plan.specs.TicketSeats.{ticket_view}
use Rattle.cmh_plan.specs.Tickets.{with_drawn}
use Rattle.cmh_work.specs.Work.{ComesBack, GoesOn, Work}

-- who goes on twice goes on
pub goes_on-twice : (a b c : Work) → GoesOn a b → GoesOn b c → GoesOn a c
goes_on-twice a b c first second = record {
  job = second.job ∙ first.job;
  tickets = second.tickets ∙ first.tickets;
  share = second.share ∙ first.share;
}

-- who has drawn a chunk, and gone on, comes back
pub back_by : (first before : Work) (drawn : TicketSeat) (after : Work) (n : ℕ) → ComesBack first before
    → GoesOn record { job = before.job; seats = record { board = before.seats.board; tickets = drawn } } after
    → ticket_view drawn ≡ with_drawn (ticket_view before.seats.tickets) n → ComesBack first after
back_by first before drawn after n back on more = record {
  job = on.job ∙ back.job;
  tickets = ap (λ s. (ticket_view s).share) on.tickets ∙ ap (λ v. v.share) more ∙ back.tickets;
  board = on.share ∙ back.board;
}
