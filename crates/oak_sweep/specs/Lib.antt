pub mod Sweeping
pub mod Ending
