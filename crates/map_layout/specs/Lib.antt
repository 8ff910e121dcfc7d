pub mod Layout
pub mod Steps
pub mod Edits
