pub mod Commands
pub mod Examples
pub mod Lists
pub mod PlainTexts
pub mod Requests
