pub mod LockTables
pub mod LockFrames
pub mod Faults
pub mod Tables
pub mod Laws
pub mod Checks
