pub mod Same
pub mod Verifiers
pub mod Checks
