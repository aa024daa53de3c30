pub mod NumberBits
pub mod Counts
pub mod Arrays
pub mod Puts
pub mod Roots
