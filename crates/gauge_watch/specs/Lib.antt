pub mod Heard
pub mod Runs
pub mod Worked
