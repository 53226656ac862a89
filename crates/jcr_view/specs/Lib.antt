pub mod Needs
pub mod Outcomes
pub mod Parts
pub mod Rebases
pub mod Rounds
pub mod Whole
