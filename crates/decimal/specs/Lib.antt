pub mod Outputs
pub mod Digits
