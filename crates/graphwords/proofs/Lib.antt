pub mod Capped
pub mod Words
pub mod Standing
pub mod Along
