pub mod Spelling
pub mod RefusedNames
pub mod Tables
