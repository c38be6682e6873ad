pub mod Instructions
pub mod OneSpelling
pub mod Places
pub mod Runs
pub mod Samples
pub mod Shortest
pub mod Signed
pub mod Unsigned
