pub mod Diagram
pub mod Ended
pub mod Words
pub mod By
pub mod Listed
