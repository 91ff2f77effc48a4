pub mod Tallies
pub mod Masks
pub mod ReportMasks
pub mod Readings
