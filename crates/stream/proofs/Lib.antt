pub mod Slices
pub mod Passing
pub mod Taking
pub mod Held
pub mod Once
