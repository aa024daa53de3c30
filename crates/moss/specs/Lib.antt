pub mod Limits
pub mod Blocks
pub mod Packet
pub mod Message
pub mod Answers
pub mod InsideWalk
