pub mod AskedLists
pub mod DeclaredAt
pub mod FirstAt
pub mod LeavingAt
pub mod QuietArgs
pub mod Tables
pub mod TakenAt
pub mod WovenLists
