pub mod Feeding
pub mod Resting
pub mod Gathering
pub mod Putting
