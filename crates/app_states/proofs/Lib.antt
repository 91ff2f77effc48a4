pub mod Accepted
pub mod Blocks
pub mod States
