pub mod PatternLines
pub mod Sections
pub mod Again
pub mod Noted
pub mod TurnLetters
