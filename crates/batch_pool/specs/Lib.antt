pub mod Distinct
pub mod Keyed
pub mod Pools
