pub mod Settings
pub mod Kept
