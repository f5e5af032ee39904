pub mod Plan
pub mod Reading
pub mod Met
pub mod Inner
