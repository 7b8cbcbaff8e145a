pub mod Alternating
pub mod Answering
pub mod Hearing
pub mod Lists
pub mod Made
pub mod Results
pub mod Telling
pub mod Typing
