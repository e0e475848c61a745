pub mod BoardPairs
pub mod EventPlaces
pub mod Schedules
pub mod Swaps
pub mod Tracked
pub mod Tracking
