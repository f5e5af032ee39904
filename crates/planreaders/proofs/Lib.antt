pub mod Filling
pub mod Lists
pub mod Plans
pub mod Reached
pub mod Trip
pub mod Aside
