pub mod Adding
pub mod Once
pub mod Sending
pub mod Zeros
