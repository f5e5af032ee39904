pub mod Record
pub mod Ranges
pub mod Stands
pub mod Writing
pub mod Inner
