pub mod Services
pub mod Served
