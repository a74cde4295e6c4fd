-- the words of public contracts
pub mod Asks
pub mod Check
pub mod Choices
pub mod Config
pub mod Engaged
pub mod Fault
pub mod Last
pub mod Legal
pub mod Run
pub mod Script
pub mod ScriptProofs
pub mod Step
-- the words of private functions
pub mod Asking
pub mod CheckState
pub mod Pending
pub mod Procs
pub mod Progress
-- what passes on words of other files
pub mod Comparisons
pub mod Prelude
