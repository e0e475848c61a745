pub mod ChoiceLaws
pub mod Crosses
pub mod ShiftLaws
pub mod ShiftedPaths
