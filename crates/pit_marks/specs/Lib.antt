pub mod Enters
pub mod Inside
pub mod Lines
pub mod Sets
pub mod Taken
pub mod Told
