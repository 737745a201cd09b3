pub mod Flatness
pub mod Sides
