pub mod AxisRows
pub mod EventRows
pub mod GrantRows
pub mod MarkClocks
pub mod Meetings
pub mod Play
pub mod StartRows
