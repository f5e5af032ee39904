pub mod Taken
pub mod Listed
pub mod Draft
pub mod Mending
pub mod Given
pub mod Inner
