pub mod Limits
pub mod Blocks
pub mod Read
pub mod Kinds
pub mod InsideWalk
