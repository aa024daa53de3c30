pub mod Read
pub mod Watched
pub mod OneByOne
