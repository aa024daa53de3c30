pub mod Keys
pub mod Look
pub mod Looked
pub mod Kept
