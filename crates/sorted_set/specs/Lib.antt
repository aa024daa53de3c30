pub mod Halving
pub mod Lists
