pub mod Stretched
pub mod Table
pub mod Kept
pub mod Light
pub mod Tests
pub mod Cases
pub mod Front
pub mod Drawn
mod Nodes
pub mod Read
pub mod Figures
