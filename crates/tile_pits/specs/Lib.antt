pub mod InsidePits
pub mod Meaning
pub mod Pits
