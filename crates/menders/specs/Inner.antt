pub mod Within
pub mod Reader
