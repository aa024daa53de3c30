pub mod Decided
pub mod Inside
