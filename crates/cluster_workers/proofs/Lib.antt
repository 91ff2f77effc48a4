mod Peers
mod SeatsLeft
pub mod Crossing
mod Growing
