pub mod Reading
pub mod Watches
