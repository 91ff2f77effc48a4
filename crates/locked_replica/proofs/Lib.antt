pub mod Found
pub mod Strings
pub mod StoredEntries
pub mod Applied
pub mod Applying
