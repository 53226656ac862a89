pub mod Meant
pub mod Sound
