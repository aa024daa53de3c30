pub mod Packets
pub mod Watches
pub mod Inside
