pub mod Order
pub mod Settling
pub mod Weights
pub mod Tidy
