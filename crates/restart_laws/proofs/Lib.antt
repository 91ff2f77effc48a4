pub mod Kept
pub mod Logged
