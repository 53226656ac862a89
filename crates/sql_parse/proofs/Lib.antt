pub mod Parsed
pub mod OneQuery
