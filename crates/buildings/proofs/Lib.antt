pub mod Cases
pub mod Alone
pub mod Tallies
pub mod Sized
pub mod Planned
pub mod Walked
pub mod Totals
