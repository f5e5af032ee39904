pub mod Row
pub mod Sound
pub mod Find
pub mod Verdict
pub mod Fractions
pub mod Nodes
pub mod Change
pub mod Inner
