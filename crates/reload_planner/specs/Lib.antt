pub mod Codes
pub mod Refusals
pub mod Changes
pub mod Planning
pub mod OneStep
pub mod Trees
