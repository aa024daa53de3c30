pub mod Adds
pub mod InsideWalk
