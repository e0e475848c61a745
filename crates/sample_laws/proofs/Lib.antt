pub mod Accepted
pub mod Blocks
pub mod JobLists
pub mod Moves
pub mod Numbers
pub mod Scans
pub mod Taken
