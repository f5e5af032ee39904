pub mod Cases
pub mod Bounds
pub mod Shortest
pub mod Forms
pub mod Written
