pub mod Checked
pub mod Entries
pub mod Refusals
