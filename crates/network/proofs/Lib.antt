pub mod Sums
pub mod Touched
pub mod Sources
pub mod Dropping
