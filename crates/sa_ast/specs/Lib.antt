pub mod Faults
pub mod Names
pub mod Rules
pub mod Sources
pub mod TypeEquality
pub mod TypeHash
pub mod Types
