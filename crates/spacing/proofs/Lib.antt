pub mod Distances
pub mod Outside
pub mod Rounded
pub mod Gains
pub mod Discs
