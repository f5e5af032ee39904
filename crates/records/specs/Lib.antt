pub mod Step
pub mod Ranged
pub mod Parents
pub mod Nodes
pub mod Reading
pub mod Expected
pub mod Inner
