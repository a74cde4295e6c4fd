-- the words of public contracts
pub mod Ends
pub mod Fault
pub mod Trace
-- the words of private functions, and one of a public one
pub mod Records
