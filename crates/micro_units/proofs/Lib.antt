pub mod Decimals
pub mod NearestWhole
pub mod SquareRoots
