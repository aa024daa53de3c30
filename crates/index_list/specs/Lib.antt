pub mod InsideLines
pub mod Lines
