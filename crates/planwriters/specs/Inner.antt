pub mod Parts
pub mod Fits
