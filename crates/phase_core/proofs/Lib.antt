pub mod Least
pub mod Counts
pub mod Choosing
pub mod Logs
pub mod Listed
