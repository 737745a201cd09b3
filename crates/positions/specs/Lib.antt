pub mod Tallies
pub mod Sizes
