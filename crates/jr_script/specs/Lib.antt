pub mod Bounds
pub mod Numbers
pub mod Schedules
pub mod Scripts
pub mod Types
