pub mod PlanText
pub mod Graph
