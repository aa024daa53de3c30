pub mod InsideRoom
pub mod Output
