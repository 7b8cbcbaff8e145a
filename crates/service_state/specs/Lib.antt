pub mod Setups
pub mod Wanted
pub mod Targets
