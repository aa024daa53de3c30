pub mod Gates
pub mod Decides
