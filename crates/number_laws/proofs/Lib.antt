pub mod FloorLaws
pub mod FractionLaws
pub mod Integers
pub mod Lists
pub mod Naturals
pub mod Orders
pub mod Ring
