pub mod Demand
pub mod Ours
pub mod ArrivalCalls
pub mod Runs
pub mod Strangers
pub mod StrangersRuns
