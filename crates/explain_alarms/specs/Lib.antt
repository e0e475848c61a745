pub mod Alarms
pub mod Blocks
pub mod Calls
pub mod KeptChannels
pub mod States
pub mod Texts
