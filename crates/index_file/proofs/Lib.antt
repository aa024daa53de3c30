pub mod Places
pub mod RowBytes
pub mod Determines
pub mod Sorted
pub mod Answers
pub mod Steps
pub mod Once
