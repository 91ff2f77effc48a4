pub mod KeyParts
pub mod NodeTable
pub mod Climb
pub mod Law
pub mod Checks
pub mod Lengths
