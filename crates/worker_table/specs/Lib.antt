pub mod Beats
pub mod Calls
pub mod Codes
pub mod Places
