pub mod Pattern
pub mod Events
