pub mod Spelling
pub mod Reading
pub mod Ranges
pub mod Reader
pub mod Faults
