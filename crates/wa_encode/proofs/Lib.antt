pub mod Adding
pub mod Joining
pub mod LongestRuns
pub mod Numbers
pub mod Orders
pub mod Productions
pub mod Weights
