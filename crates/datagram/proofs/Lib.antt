pub mod Names
pub mod Places
pub mod Saids
pub mod Larger
pub mod Once
pub mod Worked
