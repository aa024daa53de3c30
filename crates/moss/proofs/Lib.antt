pub mod MessageTurn
pub mod Trails
pub mod Packets
pub mod Parts
pub mod Looks
pub mod Faults
pub mod Once
