pub mod Meeting
pub mod Faults
pub mod Breaks
pub mod Covered
pub mod Rows
