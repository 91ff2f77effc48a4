pub mod Tallying
pub mod Readings
pub mod Puts
pub mod MaskBits
pub mod Counts
pub mod Numbering
pub mod Counted
