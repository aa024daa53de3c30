pub mod EntryTurns
pub mod Answers
pub mod Promises
