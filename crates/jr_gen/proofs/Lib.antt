pub mod Left
pub mod Lists
pub mod Meanings
pub mod Paths
pub mod Plain
pub mod Sizes
pub mod Spelled
pub mod Whole
