mod Collected
pub mod MadeRings
pub mod RingLemmas
pub mod SignersLeft
