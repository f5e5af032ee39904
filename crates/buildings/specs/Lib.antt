pub mod Task
pub mod Counts
pub mod Building
pub mod Inner
