pub mod Lines
pub mod Maps
pub mod Reading
pub mod Words
