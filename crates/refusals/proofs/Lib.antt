pub mod Readers
pub mod InOrder
pub mod Out
