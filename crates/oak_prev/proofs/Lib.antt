pub mod Older
pub mod Entries
pub mod Restoring
pub mod Resting
