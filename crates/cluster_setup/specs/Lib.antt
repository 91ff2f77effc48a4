pub mod Keys
pub mod KeySizes
pub mod KnownClusters
