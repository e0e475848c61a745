pub mod Places
pub mod Passing
pub mod Listing
pub mod Refusals
pub mod WordRefusals
pub mod Crosses
