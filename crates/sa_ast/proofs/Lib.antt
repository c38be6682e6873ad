pub mod BareTypes
pub mod Pointwise
pub mod TypeHashes
pub mod TypeTests
