pub mod Arguments
pub mod Number
pub mod Codes
