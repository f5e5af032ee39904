pub mod Cases
pub mod Inside
pub mod Given
pub mod OneWay
pub mod Drawn
pub mod Calls
pub mod Strict
pub mod Trip
