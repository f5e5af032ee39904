pub mod Pairs
pub mod Printable
pub mod Fits
pub mod Filed
