pub mod Write
pub mod InsideWalk
