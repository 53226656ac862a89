pub mod Standing
pub mod Reading
pub mod Moments
pub mod Instants
