pub mod Composition
pub mod Counts
pub mod Faults
pub mod Images
pub mod Maps
pub mod Places
pub mod Turns
