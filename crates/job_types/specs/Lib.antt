pub mod Axes
pub mod Channels
pub mod Job
pub mod Slots
pub mod SoundJob
pub mod TreeCode
pub mod Zones
