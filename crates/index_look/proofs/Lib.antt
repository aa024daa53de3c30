pub mod Halved
pub mod Leads
pub mod Steps
pub mod Kept
pub mod Once
