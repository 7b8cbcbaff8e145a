pub mod GroupShares
pub mod PostLists
pub mod GroupCounts
