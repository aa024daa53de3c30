pub mod Limits
pub mod Cut
pub mod Trip
pub mod Inside
pub mod Worked
