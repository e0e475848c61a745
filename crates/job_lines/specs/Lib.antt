pub mod Code
pub mod Header
pub mod Declaration
pub mod Extent
pub mod Length
pub mod Numbers
pub mod OptionLines
pub mod ToolLines
