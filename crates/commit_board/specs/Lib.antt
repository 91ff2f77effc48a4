pub mod Seats
pub mod BoardRule
