mod Begun
mod Delivering
mod FrameCountLemmas
mod Taken
mod RunFaultLemmas
pub mod ReportingLemmas
pub mod Crossing
mod Outcomes
