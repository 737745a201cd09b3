pub mod Writing
pub mod Fronts
