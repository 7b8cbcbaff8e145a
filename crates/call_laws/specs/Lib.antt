pub mod Start
pub mod Aside
pub mod Lengths
pub mod Pieces
