pub mod Run
pub mod Sizes
