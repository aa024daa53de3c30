pub mod Windows
pub mod Firsts
pub mod Bridge
pub mod Remembers
pub mod Moves
pub mod StepListCases
pub mod Unique
