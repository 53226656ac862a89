pub mod Drawn
pub mod Histories
pub mod References
pub mod Targets
