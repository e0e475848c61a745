pub mod SameLaws
pub mod LatestLaws
