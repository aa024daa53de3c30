pub mod Counted
pub mod RowsGiven
pub mod RowsLaid
pub mod Lengths
pub mod Once
pub mod Trips
pub mod RowTurn
