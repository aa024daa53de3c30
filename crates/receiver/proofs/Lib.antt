pub mod Clears
pub mod Ends
pub mod Settling
pub mod Forgetting
