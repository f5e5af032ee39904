pub mod Writing
pub mod Inner
