pub mod Diagram
mod Queues
mod Waking
mod Timing
mod Moving
pub mod Steps
pub mod Ending
pub mod Spans
pub mod Times
