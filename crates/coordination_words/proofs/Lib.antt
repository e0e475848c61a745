pub mod Arguments
pub mod ListedAlarms
pub mod RequestLaws
pub mod SetLaws
pub mod SetSteps
