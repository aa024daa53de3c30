pub mod BlockCases
pub mod BlockTurns
pub mod Once
pub mod Works
