-- In reading order.
pub mod Counting
pub mod Network
pub mod Walks
pub mod Places
pub mod Sources
pub mod Directions
