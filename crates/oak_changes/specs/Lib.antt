pub mod Saying
pub mod Reading
pub mod Resting
