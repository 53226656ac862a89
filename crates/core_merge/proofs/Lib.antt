pub mod Marks
pub mod Seen
pub mod Parents
pub mod Whole
pub mod More
pub mod Commits
pub mod Sights
pub mod Order
pub mod Merged
mod Rows
