pub mod Choices
pub mod Shifts
pub mod Tools
