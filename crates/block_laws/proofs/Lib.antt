pub mod Bits
pub mod Acks
pub mod Messages
