pub mod Unheard
pub mod NextLine
pub mod Limits
