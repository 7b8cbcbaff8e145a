pub mod Table
pub mod Calls
pub mod Master
pub mod Run
pub mod After
pub mod Plans
pub mod Claims
