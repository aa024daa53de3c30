pub mod Inside
pub mod Looked
pub mod Looks
pub mod Took
