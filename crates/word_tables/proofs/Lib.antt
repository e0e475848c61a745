pub mod GroupNames
pub mod Lines
pub mod NumberRows
pub mod ShortNumbers
