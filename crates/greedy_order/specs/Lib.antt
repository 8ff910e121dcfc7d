-- In reading order. The seventh part is for proofs of code alone.
pub mod Part1Degrees
pub mod Part2Greedy
pub mod Part3Order
pub mod Part4Promises
pub mod Part5KnownOrders
pub mod Part6MostHeld
pub mod Part7Folded
