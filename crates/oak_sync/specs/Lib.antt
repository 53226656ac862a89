pub mod Upward
pub mod Sets
pub mod Publishing
pub mod Learning
pub mod Ending
