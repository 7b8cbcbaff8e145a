pub mod GroupTexts
pub mod HostTexts
