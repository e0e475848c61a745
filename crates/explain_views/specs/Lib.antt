pub mod Extents
pub mod Marks
pub mod Shown
pub mod Ticks
pub mod Turns
pub mod Views
