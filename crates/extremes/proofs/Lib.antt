pub mod Candidates
pub mod Tried
pub mod Reached
pub mod Leading
pub mod Searches
pub mod Lists
pub mod Promises
