pub mod Reaches
pub mod Closure
pub mod Ways
pub mod Totals
pub mod Inner
