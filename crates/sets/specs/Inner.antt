pub mod Put
pub mod Last
pub mod Walk
