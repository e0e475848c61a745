pub mod Acts
mod ClosedBoards
pub mod Entering
pub mod GrantLaws
pub mod Members
pub mod Outcomes
pub mod Rules
mod RunTurns
pub mod Running
pub mod Starting
pub mod Staying
pub mod Takes
pub mod ZoneLaws
pub mod ChannelEnds
pub mod Granted
pub mod Numbers
pub mod Usage
