pub mod Log
pub mod Fit
pub mod WorkerAnswers
pub mod Slots
pub mod Path
pub mod Rests
pub mod Walk
pub mod Course
