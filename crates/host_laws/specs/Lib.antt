pub mod Told
pub mod Calls
pub mod HostRuns
pub mod HostStrangers
pub mod Worked
