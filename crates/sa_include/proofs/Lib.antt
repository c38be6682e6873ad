pub mod WrittenLemmas
pub mod Nothing
pub mod Firsts
pub mod Conflicting
pub mod Refusing
pub mod Resolving
pub mod RenamingLemmas
pub mod Bringing
