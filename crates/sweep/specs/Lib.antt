pub mod Order
pub mod Strips
pub mod Cursors
pub mod Sweeps
