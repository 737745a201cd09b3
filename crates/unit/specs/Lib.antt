pub mod Whole
pub mod Promise
pub mod Guarantee
pub mod Readable
pub mod Rendering
