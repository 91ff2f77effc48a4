pub mod Strings
pub mod StoredEntries
pub mod States
pub mod Applying
pub mod Views
