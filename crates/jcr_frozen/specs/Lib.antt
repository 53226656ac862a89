pub mod Attributes
pub mod Frozen
pub mod Histories
