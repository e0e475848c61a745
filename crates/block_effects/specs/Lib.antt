pub mod Words
pub mod Shapes
pub mod Effects
pub mod Courses
