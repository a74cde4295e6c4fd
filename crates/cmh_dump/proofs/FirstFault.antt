-- The first fault of a dump, in reading order: searches, kinds of faults, each stage, the whole.
pub mod Searches
pub mod Kinds
pub mod Sites
pub mod Processes
pub mod Entries
pub mod Transits
pub mod Table
pub mod Shared
pub mod WellFormed
pub mod Stages
pub mod Linked
pub mod Bytes
pub mod Laws
