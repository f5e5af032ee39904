pub mod Halves
pub mod Load
pub mod Place
