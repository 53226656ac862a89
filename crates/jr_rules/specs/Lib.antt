pub mod Checking
pub mod Violations
