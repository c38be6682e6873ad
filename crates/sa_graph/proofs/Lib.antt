pub mod Firsts
pub mod Turned
pub mod Trials
pub mod Ways
