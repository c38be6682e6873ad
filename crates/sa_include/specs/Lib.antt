pub mod Parts
pub mod Flattened
pub mod Included
pub mod Changes
pub mod Firsts
pub mod Refusals
pub mod Resolved
