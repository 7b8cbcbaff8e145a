pub mod Batches
pub mod WorkerCalls
pub mod Compact
pub mod Fit
pub mod Steps
pub mod Numbering
pub mod Stretches
pub mod Woven
