pub mod Others
pub mod Places
pub mod Substituting
pub mod TreeTypes
pub mod Unchanged
