pub mod Member
pub mod Members
pub mod Size
pub mod Greatest
pub mod Rule
pub mod Without
pub mod Inner
