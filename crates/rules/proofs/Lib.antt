pub mod Alls
pub mod Rests
pub mod Windows
pub mod Asked
pub mod Lowest
pub mod Ceilings
