pub mod Calls
pub mod Losses
pub mod Season
