pub mod Limits
pub mod Table
pub mod Runs
pub mod Range
pub mod Cost
pub mod Inner
