pub mod Freeing
pub mod Backs
