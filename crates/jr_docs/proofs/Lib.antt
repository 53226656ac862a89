pub mod Keys
pub mod NoFloat
mod Puts
