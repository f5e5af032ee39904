pub mod Cases
pub mod Walked
pub mod Filed
