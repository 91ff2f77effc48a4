pub mod RunningClusters
