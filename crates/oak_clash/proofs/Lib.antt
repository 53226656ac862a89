pub mod Marks
pub mod Roots
mod Rows
