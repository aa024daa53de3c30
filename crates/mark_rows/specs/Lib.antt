pub mod InsideRows
pub mod Placed
pub mod Rows
pub mod Spelled
