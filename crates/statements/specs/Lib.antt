pub mod Reads
pub mod Headers
