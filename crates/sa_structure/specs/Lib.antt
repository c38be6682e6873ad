pub mod Numbering
pub mod Right
pub mod Regions
pub mod Stands
