pub mod Signers
pub mod Laws
