pub mod Firsts
pub mod Hulls
pub mod Rows
pub mod Slants
