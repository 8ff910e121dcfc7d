pub mod Writing
pub mod Numerals
pub mod Outputs
