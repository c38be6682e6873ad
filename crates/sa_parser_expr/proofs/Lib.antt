pub mod Alternatives
pub mod BehindNames
mod ExactArguments
mod ExactFirsts
mod ExactOperations
mod ExactTypes
mod Innermost
pub mod Openings
mod Precedences
pub mod Runs
pub mod SameLevels
pub mod Shifts
pub mod Shorter
mod SpelledExpressions
mod SpelledTypes
pub mod Stretches
mod Taken
pub mod Tested
