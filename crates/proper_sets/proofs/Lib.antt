pub mod Orders
pub mod Counts
pub mod Cuts
pub mod Recuts
pub mod LogCounts
pub mod LogValues
pub mod Absorbing
pub mod Numbers
