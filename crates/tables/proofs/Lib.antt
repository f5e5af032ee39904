pub mod Cost
pub mod Runs
