pub mod Asked
pub mod Segmented
pub mod Spans
pub mod Written
pub mod Kinds
