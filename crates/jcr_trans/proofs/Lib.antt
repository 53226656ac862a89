pub mod Ascii
pub mod Members
pub mod NoFloat
pub mod Plain
mod Rows
pub mod Listed
