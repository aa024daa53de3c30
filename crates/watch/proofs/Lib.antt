pub mod Places
pub mod WatchCases
pub mod Unique
pub mod Runs
pub mod Works
