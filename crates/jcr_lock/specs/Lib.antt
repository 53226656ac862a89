pub mod Locks
pub mod Names
pub mod Needed
