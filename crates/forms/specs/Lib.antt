pub mod Limits
pub mod Shapes
pub mod Forms
