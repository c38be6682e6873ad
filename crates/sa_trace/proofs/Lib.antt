pub mod Fronts
pub mod HandedOn
pub mod Joined
