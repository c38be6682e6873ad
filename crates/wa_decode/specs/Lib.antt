pub mod Codes
pub mod Places
pub mod Reading
pub mod Sections
