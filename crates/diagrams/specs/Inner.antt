pub mod Sweep
pub mod Moved
pub mod Traced
