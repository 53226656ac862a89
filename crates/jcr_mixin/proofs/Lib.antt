pub mod Begun
pub mod Names
