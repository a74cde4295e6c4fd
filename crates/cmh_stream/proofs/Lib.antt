pub mod Blank
pub mod Prefixes
