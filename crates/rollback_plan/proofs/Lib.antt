pub mod DraftTrees
pub mod Splits
pub mod Lists
pub mod BackTrees
pub mod PlanTrees
pub mod CursorTrees
pub mod Apart
