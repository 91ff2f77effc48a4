pub mod Heights
pub mod Closings
pub mod Slots
pub mod ReadRows
