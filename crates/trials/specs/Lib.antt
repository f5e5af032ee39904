pub mod Told
pub mod Inner
