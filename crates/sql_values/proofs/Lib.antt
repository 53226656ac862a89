pub mod Cased
pub mod Parts
pub mod Rests
