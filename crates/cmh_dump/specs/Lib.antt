-- the words of public contracts
pub mod Dump
pub mod Entry
pub mod FirstFault
pub mod Name
pub mod Source
pub mod Tree
-- the words of private functions
pub mod Index
pub mod Places
pub mod Read
pub mod Texts
