pub mod Absorption
pub mod Clean
pub mod Laws
pub mod Machine
pub mod Sequences
pub mod Zones
