pub mod Effects
pub mod Ends
pub mod Names
pub mod Operands
pub mod Rules
pub mod Verdict
