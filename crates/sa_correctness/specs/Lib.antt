pub mod Bound
pub mod Confined
pub mod Ends
pub mod Promise
pub mod Runnable
