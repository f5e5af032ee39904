pub mod Guarding
pub mod Copy
pub mod Cases
pub mod Keeping
