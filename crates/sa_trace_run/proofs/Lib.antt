pub mod Stretches
pub mod Telling
