pub mod Shown
pub mod Turns
pub mod Places
pub mod Explained
pub mod Certified
pub mod Blocks
