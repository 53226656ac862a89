pub mod Index
pub mod Links
pub mod Early
