pub mod Empties
pub mod Lists
pub mod NoFloat
pub mod ReadBack
mod Rows
pub mod Unique
