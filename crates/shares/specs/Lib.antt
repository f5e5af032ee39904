pub mod Heavy
pub mod Deal
pub mod Density
pub mod Figures
pub mod Triples
pub mod Words
pub mod Inner
