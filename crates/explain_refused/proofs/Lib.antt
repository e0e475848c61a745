pub mod CommaLaws
pub mod TextLaws
pub mod WordLaws
