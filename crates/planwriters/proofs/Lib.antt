pub mod Small
pub mod Values
pub mod Numbers
pub mod Parts
pub mod Calls
pub mod Trip
