pub mod FrameParts
pub mod Sizes
pub mod Grammar
pub mod Fronts
pub mod Determined
pub mod Joined
pub mod Outcomes
pub mod LockParts
