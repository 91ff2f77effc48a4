pub mod Instances
pub mod Matching
pub mod Reads
pub mod Plans
pub mod Reserved
pub mod Laws
pub mod ReadFrames
