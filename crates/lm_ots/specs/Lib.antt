pub mod Parameters
pub mod Steps
pub mod Ends
pub mod Laws
