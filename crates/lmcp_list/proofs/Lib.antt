pub mod Spaced
pub mod Reading
