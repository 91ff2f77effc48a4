pub mod Writing
pub mod Responding
pub mod Faults
