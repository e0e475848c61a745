pub mod Bounds
pub mod Halves
pub mod Quadrants
pub mod Quarters
