pub mod FileLemmas
pub mod FrontLemmas
pub mod OnlyLemmas
pub mod ProgramLemmas
pub mod ReadLemmas
