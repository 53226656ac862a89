pub mod Below
pub mod Escapes
pub mod Grammar
pub mod Lists
pub mod Readings
pub mod Unique
