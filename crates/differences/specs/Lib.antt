pub mod Limits
pub mod Noted
pub mod Difference
