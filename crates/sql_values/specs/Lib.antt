pub mod Texts
pub mod Patterns
pub mod Matching
pub mod Values
