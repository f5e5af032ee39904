pub mod Reaches
pub mod Closure
pub mod Ways
pub mod Totals
mod Orders
pub mod Settling
