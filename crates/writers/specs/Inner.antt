pub mod Trial
pub mod Parts
pub mod Puts
