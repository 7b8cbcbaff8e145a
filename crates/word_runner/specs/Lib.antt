pub mod Asking
pub mod Codes
pub mod Enactors
pub mod Spellings
pub mod Started
pub mod Status
pub mod Words
