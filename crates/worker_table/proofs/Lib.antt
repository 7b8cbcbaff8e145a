pub mod Orders
pub mod PlaceLemmas
pub mod Loops
