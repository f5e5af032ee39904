pub mod Cases
pub mod Inside
pub mod Expected
pub mod Answers
