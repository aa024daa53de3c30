pub mod Inside
pub mod Lines
pub mod Worked
