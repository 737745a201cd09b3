pub mod Overlapping
pub mod Crossing
pub mod Listing
pub mod Remaining
pub mod Deciding
pub mod FirstBox
