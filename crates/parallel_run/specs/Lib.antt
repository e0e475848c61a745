pub mod Workers
pub mod ThreadRuns
pub mod Joining
pub mod Returns
pub mod Meetings
