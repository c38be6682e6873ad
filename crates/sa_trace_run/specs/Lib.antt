pub mod Stretches
pub mod Traced
