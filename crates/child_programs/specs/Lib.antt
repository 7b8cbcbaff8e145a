pub mod WorkerLines
pub mod Response
pub mod Worker
pub mod Requests
pub mod Master
pub mod Served
pub mod Adopting
