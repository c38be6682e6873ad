pub mod Cycles
pub mod Kept
pub mod Hierarchies
pub mod Lines
pub use Rattle.sa_unify.specs.DeclaredEdges
pub use Rattle.sa_unify.specs.Numbers
pub use Rattle.sa_unify.specs.EdgePairs
pub use Rattle.sa_unify.specs.Terms
