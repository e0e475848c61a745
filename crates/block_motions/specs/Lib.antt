pub mod Arcs
pub mod Goals
pub mod Lengths
pub mod Motions
pub mod Sides
