pub mod Packing
pub mod Watched
pub mod PacketCalls
