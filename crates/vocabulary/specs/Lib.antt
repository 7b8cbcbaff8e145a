pub mod Settings
pub mod Fates
pub mod Words
