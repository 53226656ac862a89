pub mod Between
pub mod Observing
pub mod Instants
