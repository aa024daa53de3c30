pub mod BlockOfRun
pub mod Runs
pub mod ListTurns
pub mod Trips
pub mod Once
pub mod Longest
pub mod Shortest
