pub mod Answers
pub mod WriteCases
pub mod Once
pub mod Rows
pub mod Weighs
