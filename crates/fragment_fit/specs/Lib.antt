pub mod Fits
pub mod Inside
