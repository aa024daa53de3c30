pub mod Speaks
pub mod Reading
pub mod Calls
pub mod HostDemand3
pub mod HostStrangers
pub mod Through
pub mod Works
