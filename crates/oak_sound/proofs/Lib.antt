pub mod Breaking
pub mod Lists
pub mod Numbering
pub mod Raising
