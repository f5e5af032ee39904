pub mod Writes
pub mod Decimals
pub mod Sizes
pub mod Lines
