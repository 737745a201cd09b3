pub mod Eligible
pub mod SquareCorners
pub mod Span
pub mod Regions
pub mod Nearness
pub mod Sizes
