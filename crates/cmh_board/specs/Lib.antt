-- the words of public contracts
pub mod Board
pub mod Fault
pub mod HintProofs
pub mod Hints
pub mod Posting
pub mod Snap
-- the words of private functions
pub mod Adding
pub mod Closing
