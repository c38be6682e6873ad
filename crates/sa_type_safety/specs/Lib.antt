pub mod Law
pub mod Typing
