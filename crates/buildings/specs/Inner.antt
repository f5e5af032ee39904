pub mod Tally
pub mod Sized
pub mod PlanOf
