pub mod Examples
pub mod Vacuity
pub mod Floors
pub mod Audits
pub mod PlainRun
