pub mod FirstAnswer
pub mod Stops
