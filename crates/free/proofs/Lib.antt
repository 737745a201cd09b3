pub mod Held
pub mod RegionTables
pub mod Places
pub mod NearParts
pub mod Settling
pub mod Halves
