pub mod Places
pub mod Batches
pub mod Added
pub mod AttemptTrees
pub mod TriedTrees
pub mod Fitness
pub mod TriedFitness
