pub mod Judging
pub mod Rules
pub mod Inner
