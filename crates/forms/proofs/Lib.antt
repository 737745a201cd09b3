pub mod Spans
pub mod Heads
pub mod Named
