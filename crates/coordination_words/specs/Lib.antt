pub mod Laws
pub mod Operands
pub mod Programs
pub mod Requests
pub mod Settings
