pub mod Head
pub mod Numbers
pub mod Slots
pub mod Chain
pub mod Changes
