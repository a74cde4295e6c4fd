pub mod Fault
pub mod Plan
pub mod TicketSeats
pub mod Tickets
