pub mod Loads
pub mod Summing
