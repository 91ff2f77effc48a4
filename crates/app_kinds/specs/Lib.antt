pub mod Codes
pub mod Wrapped
pub mod Sorted
pub mod Purses
pub mod Balances
pub mod Chosen
pub mod Determined
pub mod Words
