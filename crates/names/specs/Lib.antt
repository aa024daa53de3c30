pub mod Limits
pub mod Scan
pub mod Name
