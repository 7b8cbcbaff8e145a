pub mod Sets
pub mod Fitness
pub mod Reloads
pub mod Fit
pub mod Ways
pub mod Moved
pub mod Planned
