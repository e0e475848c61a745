pub mod Headers
pub mod Lines
pub mod Numbers
pub mod Origins
pub mod Trimmed
