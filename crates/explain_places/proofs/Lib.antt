pub mod EntryLaws
pub mod ExecutionLaws
pub mod LatestLaws
pub mod TextLaws
