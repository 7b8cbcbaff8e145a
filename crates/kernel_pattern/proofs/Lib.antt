pub mod Patterns
pub mod PatternEdits
