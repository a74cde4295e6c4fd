pub mod DrawnNumbers
pub mod Examples
pub mod TicketsLemmas
