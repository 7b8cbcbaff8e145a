pub mod First
pub mod Marks
