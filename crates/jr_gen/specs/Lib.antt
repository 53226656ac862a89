pub mod Draws
pub mod Rounds
pub mod Scripts
pub mod Sizes
