pub mod TileGiven
pub mod Means
pub mod Once
pub mod Parts
