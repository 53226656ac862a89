pub mod Earlier
pub mod Follows
pub mod Gone
pub mod Renewal
pub mod Whole
