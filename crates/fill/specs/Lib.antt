pub mod Judge
pub mod Placement
pub mod Sizes
pub mod Windows
