mod Meeting
mod QuietSteps
mod Soundness
