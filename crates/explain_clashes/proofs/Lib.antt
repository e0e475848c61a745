pub mod MarginLaws
pub mod WayLaws
