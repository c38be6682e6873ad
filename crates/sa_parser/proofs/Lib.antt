pub mod Appended
mod ExactBlocks
mod ExactBodies
mod ExactClasses
mod ExactConditions
mod ExactCopies
mod ExactDeclared
mod ExactFeatures
mod ExactFiles
mod ExactHeads
mod ExactIncludes
mod ExactMembers
mod ExactNames
mod ExactSignatures
mod ExactStatements
pub mod SpelledStatements
mod Yields
