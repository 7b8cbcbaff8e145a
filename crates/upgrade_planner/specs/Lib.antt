pub mod Trees
pub mod Planned
