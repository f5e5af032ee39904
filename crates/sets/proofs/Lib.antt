pub mod Bits
pub mod Sizes
pub mod Greatest
pub mod Walks
pub mod Rule
pub mod Words
pub mod Without
pub mod Below
mod Runs
