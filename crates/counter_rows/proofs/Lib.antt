pub mod GatherLaws
pub mod GoingLaws
pub mod TableLaws
pub mod WalkLaws
