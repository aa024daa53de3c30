pub mod Writes
pub mod Inside
