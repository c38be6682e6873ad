pub mod Choices
pub mod Pairs
