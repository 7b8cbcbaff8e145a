pub mod Lives
pub mod Deaths
pub mod WorkedLives
