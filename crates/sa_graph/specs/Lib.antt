pub mod Paths
pub mod Levels
pub mod Reaching
