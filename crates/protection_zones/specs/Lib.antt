pub mod Sweeps
pub mod Notes
pub mod Beginnings
pub mod Terms
pub mod Exchanges
pub mod Logs
