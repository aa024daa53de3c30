pub mod Records
pub mod Whole
pub mod InsideWindows
