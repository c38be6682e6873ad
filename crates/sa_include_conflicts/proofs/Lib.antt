pub mod Hashes
pub mod Separate
pub mod Places
pub mod Marking
pub mod Grouping
pub mod FirstConflict
pub mod LeftStubs
pub mod Replacements
