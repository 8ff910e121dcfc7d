pub mod Fields
pub mod Layout
pub mod Reading
pub mod Checks
pub mod Laws
