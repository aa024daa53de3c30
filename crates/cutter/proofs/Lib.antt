pub mod Sizes
pub mod Written
pub mod Counts
pub mod Headers
pub mod Trips
pub mod Output
pub mod Once
pub mod Worked
