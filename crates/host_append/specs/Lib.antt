pub mod Inside
pub mod Told
