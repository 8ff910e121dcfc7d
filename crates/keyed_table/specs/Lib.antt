pub mod Listing
pub mod Chains
pub mod Tables
