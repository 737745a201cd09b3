pub mod File
pub mod Acceptance
pub mod Gaps
pub mod SquareCorners
pub mod Lined
