pub mod Called
pub mod Elements
pub mod Locals
pub mod Slices
pub mod Told
pub mod Walk
pub mod Found
pub mod Numbers
