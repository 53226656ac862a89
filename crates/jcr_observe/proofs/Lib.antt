pub mod Below
pub mod Differences
pub mod NoFloat
