pub mod HelpLemmas
pub mod LineLemmas
pub mod NumberLemmas
pub mod ProgramLemmas
