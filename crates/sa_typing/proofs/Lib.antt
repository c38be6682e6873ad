pub mod Arguments
pub mod Blocks
pub mod Counted
pub mod Holding
pub mod Listed
pub mod Numbered
pub mod Parts
pub mod SiteLists
