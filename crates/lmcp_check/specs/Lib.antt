pub mod Refusal
pub mod InsideSteps
pub mod InsideChecks
