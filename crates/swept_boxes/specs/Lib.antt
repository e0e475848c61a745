pub mod Boxes
pub mod Cover
pub mod Pieces
pub mod PlaneBoxes
pub mod Ranges
