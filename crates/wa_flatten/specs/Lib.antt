pub mod Codes
pub mod Contents
pub mod Builders
pub mod Layouts
pub mod Places
