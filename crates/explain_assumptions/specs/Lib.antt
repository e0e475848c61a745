pub mod Assumptions
pub mod Firsts
pub mod Reads
pub mod Remarks
pub mod Rows
pub mod Texts
pub mod Walks
