pub mod Expected
pub mod Graph
pub mod Met
pub mod Alike
pub mod Record
pub mod Inner
