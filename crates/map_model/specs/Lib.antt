pub mod Lists
pub mod Answers
pub mod Model
pub mod Sound
pub mod Shown
pub mod Statements
pub mod Laws
pub mod Known
