pub mod Lists
pub mod Serving
pub mod Staying
pub mod Rolled
pub mod Sides
