pub mod Conformance
pub mod Conflict
pub mod Fit
pub mod Specificity
pub mod Candidates
pub mod Resolution
