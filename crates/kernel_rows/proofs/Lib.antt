pub mod Lists
pub mod GapMoves
pub mod Bearing
pub mod Passing
pub mod Closing
pub mod First
pub mod Lone
