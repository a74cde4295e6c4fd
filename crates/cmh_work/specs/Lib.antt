-- the words of public contracts
pub mod Analysis
pub mod Cutting
pub mod Fault
pub mod Record
pub mod Shape
-- the words of private functions
pub mod Finding
pub mod Leaders
pub mod Numbering
pub mod Work
pub mod Worker
pub mod Working
