pub mod Observed
pub mod Differences
pub mod Texts
