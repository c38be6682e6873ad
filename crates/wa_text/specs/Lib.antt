pub mod Forms
pub mod Instructions
pub mod Listing
pub mod Mnemonics
pub mod Places
pub mod Reading
pub mod Words
pub mod Writing
