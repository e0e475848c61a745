pub mod SetLaws
pub mod WordLaws
pub mod KeptLaws
pub mod MarkLaws
