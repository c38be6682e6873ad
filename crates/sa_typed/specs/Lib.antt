pub mod Copy
pub mod Nodes
pub mod PositionList
pub mod Tree
