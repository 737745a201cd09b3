pub mod Tiles
pub mod Starts
pub mod Promise
pub mod Placing
pub mod Windows
pub mod Verdicts
