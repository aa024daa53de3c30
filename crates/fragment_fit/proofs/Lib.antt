pub mod Aparts
