pub mod Runs
pub mod Granted
pub mod Layouts
pub mod Members
pub mod Lawful
pub mod Refusals
pub mod Walks
