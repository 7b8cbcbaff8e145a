pub mod NumberText
pub mod Cuts
pub mod Kept
pub mod Lines
