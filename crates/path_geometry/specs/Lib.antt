pub mod Arcs
pub mod Ends
pub mod Motions
pub mod Path
pub mod Rings
pub mod Vectors
