pub mod Plans
pub mod Laying
pub mod Trips
pub mod Once
