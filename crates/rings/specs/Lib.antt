pub mod Inside
pub mod Ring
pub mod Round
