pub mod ExtentLaws
pub mod LengthLemmas
