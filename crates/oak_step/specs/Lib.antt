pub mod Upkeeps
pub mod Works
pub mod Parts
