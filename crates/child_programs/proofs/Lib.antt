mod WorkerLineTexts
mod Obeying
pub mod Handing
