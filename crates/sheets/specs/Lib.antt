pub mod Lines
pub mod Sheet
pub mod Printed
pub mod Inner
