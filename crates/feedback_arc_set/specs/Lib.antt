pub mod Nodes
pub mod Containers
pub mod Listed
pub mod Steps
pub mod Orders
pub mod Verdicts
pub mod Cursors
