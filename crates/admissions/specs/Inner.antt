pub mod NoBoard
pub mod PlanIn
