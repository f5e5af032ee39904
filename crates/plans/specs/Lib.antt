pub mod Diagram
pub mod Shares
pub mod Words
pub mod Calls
pub mod Accepted
pub mod Kept
pub mod Inner
