pub mod Copies
pub mod Marking
