pub mod Readers
pub mod Withins
pub mod Admits
pub mod Once
pub mod Deliveries
