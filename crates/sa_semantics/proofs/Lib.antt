mod Agree
mod AgreeBuiltin
mod AgreeCalls
mod AgreeStatements
mod AgreeSteps
pub mod Alike
mod Computed
mod ComputedMore
pub mod AlikeCalls
pub mod AlikeStatements
pub mod Laws
pub mod SameBefore
pub mod SteadyBuiltin
pub mod SteadySteps
pub mod WholeRuns
