pub mod Documents
pub mod Members
