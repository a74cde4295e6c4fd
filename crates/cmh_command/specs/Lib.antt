pub mod List
pub mod CommandLine
pub mod Plain
