pub mod EnteringCases
pub mod TileLines
pub mod Proper
pub mod Seen
pub mod Told
pub mod ElementTurn
pub mod Once
