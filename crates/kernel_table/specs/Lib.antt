pub mod Seen
pub mod Free
pub mod Lone
pub mod Names
pub mod Room
pub mod Rows
pub mod Files
pub mod Foreign
