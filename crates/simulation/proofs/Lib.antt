mod FirstServing
mod Growing
pub mod Indexing
pub mod Passing
pub mod PlayLemmas
pub mod Ranges
pub mod Serving
pub mod StepLemmas
pub mod StepTargets
