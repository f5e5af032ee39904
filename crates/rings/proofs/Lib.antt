mod Inside
mod Smallest
mod Taking
pub mod Round
mod Circle
