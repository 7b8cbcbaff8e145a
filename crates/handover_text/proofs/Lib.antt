pub mod Cuts
pub mod LinesRead
pub mod SoFar
pub mod Spelled
pub mod Taken
pub mod Begun
pub mod First
