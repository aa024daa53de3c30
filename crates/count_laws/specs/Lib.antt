pub mod Losses
pub mod Every
pub mod Calls
pub mod Worked
