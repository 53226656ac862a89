pub mod Changes
pub mod Events
pub mod Learning
pub mod Lists
pub mod Memories
pub mod Pasts
pub mod Pins
pub mod Recovering
mod Rows
pub mod Times
pub mod Untold
pub mod Vectors
pub mod Waits
