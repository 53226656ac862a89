pub mod Meaning
pub mod Shown
pub mod Wanted
pub mod Reading
pub mod Kept
