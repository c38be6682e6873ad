pub mod Contexts
pub mod Texts
