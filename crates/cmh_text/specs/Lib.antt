-- the words of public contracts
pub mod Outline
pub mod Report
pub mod Summary
-- the words of private functions
pub mod Chunks
pub mod Group
pub mod GroupLines
pub mod LastPath
pub mod LeaderReach
pub mod Names
pub mod Processes
pub mod ProcessLines
pub mod Sites
