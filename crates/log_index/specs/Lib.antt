pub mod Limits
pub mod Rows
pub mod Index
pub mod Words
pub mod Inside
