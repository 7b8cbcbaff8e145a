pub mod Shut
pub mod Asked
pub mod Marks
