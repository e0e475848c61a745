pub mod Boxes
pub mod Entries
pub mod Executions
pub mod Lines
pub mod Motions
pub mod Places
pub mod Spans
