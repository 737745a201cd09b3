pub mod Text
pub mod Decimal
pub mod Pattern
pub mod Scanning
