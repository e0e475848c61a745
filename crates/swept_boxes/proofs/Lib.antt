pub mod ArcPieceLaws
pub mod LineLaws
pub mod MeetTests
pub mod Meeting
pub mod PieceLaws
pub mod PlaneLaws
