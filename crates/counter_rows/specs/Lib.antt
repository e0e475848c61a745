pub mod MarkClocks
pub mod Rows
pub mod Tables
