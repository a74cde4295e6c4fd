-- the words of public contracts
pub mod Build
pub mod ChosenPath
pub mod Core
pub mod Fault
pub mod First
pub mod Graph
pub mod Path
pub mod Verdict
-- the words of private functions, and some of public ones
pub mod Alone
pub mod Judge
pub mod Search
