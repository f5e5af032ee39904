mod Rule
mod Promise
mod Exact
pub mod Record
pub mod Plan
mod Board
pub mod Note
pub mod Withdraw
pub mod Ask
pub mod Write
pub mod Mend
pub mod Graph
pub mod Building
pub mod PlanRecord
pub mod Judge
pub mod Admit
pub mod Diagram
pub mod Print
pub mod Cost
mod Standing
mod Pairing
mod Verdict
pub mod Day
mod Within
pub mod Sales
pub mod Guarded
pub mod Starred
pub mod Promises
