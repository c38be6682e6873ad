pub mod Adapters
pub mod Calls
pub mod Faults
pub mod FileList
pub mod Files
pub mod Input
pub mod Memory
pub mod Output
