pub mod Row
pub mod Place
pub mod Tests
pub mod Cases
pub mod Keeping
