pub mod Codes
pub mod EntryReading
pub mod BlockLine
pub mod LineReading
pub mod Reading
pub mod Reader
pub mod Block
