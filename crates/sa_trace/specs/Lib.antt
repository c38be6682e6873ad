pub mod TraceRecords
pub mod Writing
pub mod Pieces
