pub mod Crosses
pub mod Digits
pub mod Owners
