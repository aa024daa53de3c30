pub mod Hears
pub mod Runs
pub mod Once
pub mod Works
