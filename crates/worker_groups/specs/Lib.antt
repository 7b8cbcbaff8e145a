pub mod Groups
pub mod Crews
pub mod Kept
