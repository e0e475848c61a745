pub mod BoxTexts
pub mod Headlines
pub mod Room
