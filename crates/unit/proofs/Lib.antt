pub mod Metal
pub mod Tallying
pub mod Demand
pub mod Accepting
pub mod Replying
pub mod Alike
