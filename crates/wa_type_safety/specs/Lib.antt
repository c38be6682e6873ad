pub mod Law
pub mod Ranges
pub mod Typing
