mod Totals
mod Histories
mod Channels
mod Keeps
mod Cuts
mod Framing
mod Turning
mod Waits
mod Sharing
pub mod Passes
