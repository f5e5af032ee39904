pub mod Cut
pub mod Running
pub mod Cutting
pub mod Share
pub mod Inner
