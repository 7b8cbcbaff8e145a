pub mod Spots
pub mod Counts
pub mod Sides
