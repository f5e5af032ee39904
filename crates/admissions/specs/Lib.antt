pub mod Admission
pub mod Inner
