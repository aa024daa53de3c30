pub mod Worked
pub mod Shown
pub mod StrangersWorked
