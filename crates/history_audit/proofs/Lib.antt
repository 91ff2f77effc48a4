pub mod Tables
pub mod Searching
pub mod Replaying
pub mod Waiting
pub mod Findings
