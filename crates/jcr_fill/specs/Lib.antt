pub mod Filled
pub mod Kept
pub mod Makings
pub mod Steps
