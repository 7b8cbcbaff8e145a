pub mod DeathsText
pub mod RunText
pub mod SummaryText
