pub mod Parts
pub mod Reader
pub mod Cuts
pub mod Lending
