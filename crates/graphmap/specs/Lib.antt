pub mod Places
pub mod States
pub mod Capacity
pub mod Maps
pub mod Sources
pub mod Links
pub mod Cursors
