pub mod Turning
pub mod Calls
