pub mod Answers
pub mod Modules
pub mod Runs
pub mod Within
