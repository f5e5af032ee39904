pub mod Sheets
pub mod Sizes
pub mod Printing
