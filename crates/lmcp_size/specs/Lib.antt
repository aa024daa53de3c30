pub mod Size
pub mod InsideSteps
pub mod InsideWeighs
