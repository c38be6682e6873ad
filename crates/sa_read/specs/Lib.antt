pub mod Front
pub mod SourceFiles
pub mod FileContents
