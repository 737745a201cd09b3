pub mod Levels
pub mod Sizes
pub mod Grid
pub mod Spans
pub mod Passing
pub mod Weighing
pub mod Passes
pub mod Laws
