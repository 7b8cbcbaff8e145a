pub mod Living
pub mod Alive
pub mod Ceiling
pub mod Crowd
pub mod Fullest
