pub mod Implementations
pub mod Rising
pub mod Layout
