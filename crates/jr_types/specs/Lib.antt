pub mod Attributes
pub mod Registered
pub mod Rules
pub mod Said
pub mod Types
