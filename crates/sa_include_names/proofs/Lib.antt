pub mod Numbers
pub mod Misuses
pub mod Clauses
pub mod Scopes
pub mod Verdicts
pub mod Seconds
