pub mod Counts
pub mod FileListLemmas
pub mod Growth
