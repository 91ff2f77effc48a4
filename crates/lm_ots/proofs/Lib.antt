pub mod Coefs
pub mod Writes
pub mod Chains
pub mod EndLemmas
pub mod Parts
pub mod Leaves
pub mod Law
