pub mod Lines
pub mod Files
pub mod Widening
pub mod StillAccepted
pub mod SameGaps
pub mod Accepted
