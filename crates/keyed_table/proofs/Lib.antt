pub mod Last
pub mod Mending
pub mod Listed
pub mod Calls
