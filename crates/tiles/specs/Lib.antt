pub mod Tiles
pub mod Sizes
pub mod Sums
