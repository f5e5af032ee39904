pub mod Wrote
pub mod Page
