pub mod Editions
pub mod Entries
pub mod First
pub mod Listed
pub mod Said
pub mod Step
