pub mod Proper
pub mod Left
pub mod Merges
pub mod Bound
pub mod Named
pub mod Peace
