pub mod Additions
pub mod Insertion
pub mod Listed
