pub mod Numbers
pub mod Readers
pub mod Refusal
pub mod InOrder
pub mod Answer
pub mod After
