pub mod Answers
pub mod NumberBytes
pub mod Puts
pub mod Widths
