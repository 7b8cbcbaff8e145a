pub mod State
pub mod Each
pub mod Table
pub mod Turns
pub mod Edge
pub mod EdgeLemmas
