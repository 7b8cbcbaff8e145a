pub mod Holds
pub mod Seen
pub mod Rows
pub mod Edits
pub mod Places
pub mod HolderList
pub mod Gaps
