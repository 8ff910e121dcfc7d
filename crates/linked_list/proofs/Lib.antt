pub mod Members
pub mod Reading
pub mod Linking
pub mod Splicing
pub mod Removing
pub mod Pushing
pub mod Popping
pub mod Swapping
