pub mod Splits
pub mod Moving
pub mod Wanted
pub mod Splitting
pub mod Stages
pub mod Resting
