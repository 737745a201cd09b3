pub mod Sums
pub mod Moving
pub mod Ordered
pub mod Covered
