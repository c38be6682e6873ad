pub mod Division
pub mod ChainLemmas
pub mod Steps
pub mod Moves
