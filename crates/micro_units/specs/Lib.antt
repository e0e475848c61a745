pub mod Arithmetic
pub mod Num
pub mod NumberText
pub mod Position
pub mod Root
pub mod Rounding
