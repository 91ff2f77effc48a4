pub mod Passes
pub mod InboxRule
pub mod Fits
