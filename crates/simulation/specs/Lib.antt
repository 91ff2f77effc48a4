pub mod Lies
pub mod Indexes
pub mod Playing
