pub mod Behind
pub mod Replying
pub mod Blocks
