pub mod Grouped
pub mod Rules
pub mod Serving
