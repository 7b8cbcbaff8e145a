pub mod LineText
pub mod LineReading
pub mod TurnsText
pub mod Courses
pub mod PatternsText
pub mod Reader
pub mod PatternsWriting
pub mod Written
