pub mod Shapes
pub mod Reaches
pub mod Lots
pub mod Parts
pub mod Depths
