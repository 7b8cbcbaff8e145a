pub mod Told
pub mod Talk
pub mod Lines
