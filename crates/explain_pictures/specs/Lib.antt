pub mod Boxes
pub mod Focus
pub mod Kept
pub mod Moments
pub mod Named
pub mod Spans
pub mod Tracks
pub mod Turns
