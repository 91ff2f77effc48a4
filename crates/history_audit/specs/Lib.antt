pub mod Tables
pub mod Searches
pub mod Followed
pub mod Findings
pub mod Faults
