pub mod Pairs
pub mod PairTexts
pub mod Reasons
pub mod PairData
