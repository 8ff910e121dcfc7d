pub mod Replayed
pub mod Running
