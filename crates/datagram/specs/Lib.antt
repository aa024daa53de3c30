pub mod Limits
pub mod Name
pub mod Read
pub mod Said
pub mod Lawful
pub mod Worked
