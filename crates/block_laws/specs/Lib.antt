pub mod Acks
pub mod Messages
