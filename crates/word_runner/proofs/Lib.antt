pub mod Starting
pub mod Wording
pub mod Keeping
