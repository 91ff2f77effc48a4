pub mod Requests
pub mod Blocks
