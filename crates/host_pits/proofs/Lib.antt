pub mod LineTelling
pub mod Telling
