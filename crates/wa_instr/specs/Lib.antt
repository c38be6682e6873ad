pub mod Access
pub mod Stack
