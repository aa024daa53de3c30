pub mod Telling
pub mod Kept
