pub mod Adding
pub mod Definitions
pub mod Entries
pub mod Sessions
pub mod Unique
pub mod Within
