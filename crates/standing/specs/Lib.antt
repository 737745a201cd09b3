pub mod Fault
pub mod Filling
pub mod Faults
pub mod Sound
pub mod Near
pub mod Held
