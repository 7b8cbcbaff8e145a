pub use Rattle.kernel_pattern.specs.Pattern
pub use Rattle.kernel_table.specs.Room
pub mod State
pub mod Alone
pub mod Boot
pub mod Codes
pub mod Readers
pub mod Serving
