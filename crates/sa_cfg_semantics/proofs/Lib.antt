pub mod Alike
pub mod AlikeCalls
pub mod AlikeInstances
pub mod AlikeSteps
mod Computed
mod ComputedMore
pub mod Places
