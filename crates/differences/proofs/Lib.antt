pub mod Differences
pub mod Once
