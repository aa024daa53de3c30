pub mod ReadCases
pub mod Frames
pub mod CheckTurns
pub mod Nulls
pub mod Roots
pub mod Runs
pub mod Steps
