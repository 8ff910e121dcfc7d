-- In reading order.
pub mod Columns
pub mod Classes
pub mod Following
pub mod Stages
pub mod Laying
