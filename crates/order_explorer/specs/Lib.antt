pub mod Totals
pub mod Exploring
pub mod Choosing
