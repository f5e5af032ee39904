pub mod Text
pub mod Decimal
pub mod Wrote
pub mod Lines
pub mod Inner
