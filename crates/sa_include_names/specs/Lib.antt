pub mod Names
pub mod Includes
pub mod Headers
pub mod Tables
pub mod Refusals
