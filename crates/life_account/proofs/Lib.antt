pub mod Passing
pub mod Living
pub mod Opening
pub mod Calling
