pub mod WorldViews
pub mod Headline
pub mod Leaves
pub mod Openings
pub mod Sending
pub mod Steps
