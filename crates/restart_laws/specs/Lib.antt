pub mod Restarts
