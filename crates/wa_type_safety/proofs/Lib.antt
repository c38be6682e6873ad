pub mod Branches
pub mod Calls
pub mod First
pub mod Linked
pub mod Memory
pub mod Opcodes
pub mod Operators
pub mod Plain
pub mod Ranges
pub mod Rules
pub mod Runs
mod Samples
pub mod Spelled
pub mod Steps
pub mod Values
