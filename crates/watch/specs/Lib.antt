pub mod Limits
pub mod Senders
pub mod Watching
pub mod Runs
pub mod Worked
