pub mod Groups
pub mod Modal
