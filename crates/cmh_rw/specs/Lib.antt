pub mod Fault
pub mod History
pub mod Machine
pub mod Rule
pub mod Seats
pub mod View
