pub mod Exact
pub mod Listing
pub mod Search
