mod ChMaj
mod Rotations
mod LaneLemmas
mod Blocks
pub mod TurnLemmas
