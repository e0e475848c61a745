pub mod Floors
pub mod Fractions
