pub mod Clashes
pub mod WaySteps
pub mod Ways
