pub mod Loops
pub mod Views
