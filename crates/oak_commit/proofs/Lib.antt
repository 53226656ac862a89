pub mod Backward
pub mod Indexed
pub mod Looks
pub mod Meeting
pub mod Moved
pub mod Shown
