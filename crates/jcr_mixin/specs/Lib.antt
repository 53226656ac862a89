pub mod Commands
pub mod Histories
