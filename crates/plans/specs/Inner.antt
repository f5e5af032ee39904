pub mod Planned
pub mod Drawn
pub mod Table
