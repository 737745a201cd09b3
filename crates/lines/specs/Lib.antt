pub mod Spellings
pub mod Reading
