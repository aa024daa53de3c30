pub mod Outcomes
pub mod Inside
pub mod Calls
