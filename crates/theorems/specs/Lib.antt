pub mod Examples
pub mod GroupRuns
pub mod Layouts
pub mod WorkedRuns
pub mod WrongTables
pub mod Apart
pub mod Settling
