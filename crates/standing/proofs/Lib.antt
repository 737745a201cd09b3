pub mod InOrder
pub mod Faultless
pub mod Sound
pub mod Shapes
pub mod Rows
pub mod Entering
