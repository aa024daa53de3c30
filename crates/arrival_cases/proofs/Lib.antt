pub mod Computed
pub mod StepCases
pub mod Answered
pub mod Works
pub mod Needed
pub mod StrangersWork
