pub mod TakeLaws
pub mod StepLaws
pub mod RunLaws
pub mod MissingLaws
