pub mod BuiltinRows
pub mod BuiltinTable
pub mod PreludeText
