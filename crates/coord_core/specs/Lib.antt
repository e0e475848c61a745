pub mod Boards
pub mod BoardTurns
pub mod Closing
pub mod DeskLaws
pub mod Desks
pub mod Histories
pub mod Tables
pub mod Ends
