pub mod GroupWords
pub mod Refused
pub mod LargeNumbers
