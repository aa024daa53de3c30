pub mod Shown
pub mod Losses
pub mod Every
pub mod Strangers
pub mod Calls
pub mod Works
