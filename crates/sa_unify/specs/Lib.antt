pub mod DeclaredEdges
pub mod Headers
pub mod Numbers
pub mod EdgePairs
pub mod Patterns
pub mod Spelled
pub mod Supertypes
pub mod Terms
