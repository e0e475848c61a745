pub mod LineEnds
pub mod Parentheses
pub mod Frames
pub mod Coordination
pub mod Standing
pub mod SpelledForms
