pub mod Pair
pub mod Sheet
pub mod Inner
