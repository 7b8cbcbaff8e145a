pub mod Counts
pub mod Leftovers
pub mod Deaths
pub mod Survived
