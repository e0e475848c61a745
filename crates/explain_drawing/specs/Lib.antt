pub mod Drawing
pub mod Space
pub mod Times
pub mod Titles
pub mod Words
