pub mod Abstract
pub mod AtTypes
pub mod Substitution
pub mod Table
pub mod Trees
