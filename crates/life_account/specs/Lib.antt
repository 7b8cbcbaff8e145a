pub mod Tables
pub mod Shorts
pub mod Account
pub mod Lived
