pub mod Relaxed
pub mod Sheets
