pub mod File
pub mod Files
pub mod Head
