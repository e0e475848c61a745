pub mod Halves
pub mod Kept
pub mod Positions
pub mod Sets
pub mod Words
