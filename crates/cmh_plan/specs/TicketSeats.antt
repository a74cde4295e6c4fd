-- What contracts say of the tickets and of a seat.
use Rattle.std.specs.Prelude.{◌≡◌, ℕ}
use Rattle.cmh_plan.specs.declared.ticket_rule.TicketView.{TicketView}
use Rattle.cmh_plan.specs.declared.tickets.Tickets.{Tickets}
use Rattle.cmh_plan.specs.declared.tickets.TicketSeat.{TicketSeat}

-- what a seat knows
abbrev pub ticket_view : TicketSeat → TicketView
ticket_view s = s.seat.me.0

-- how many numbers there are
abbrev pub chunk_count : Tickets → ℕ
chunk_count t = t.chunks

-- the seat is one of these tickets
abbrev pub IsTicketSeatOf : Tickets → TicketSeat → Type 0
IsTicketSeatOf t s = (s.seat.table_id ≡ t.table.shared.table_id) × ((ticket_view s).chunks ≡ t.chunks)
