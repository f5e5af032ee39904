pub mod Number
pub mod Form
pub mod Shortest
pub mod Inner
