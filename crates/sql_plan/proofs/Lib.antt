pub mod Picked
pub mod Meets
pub mod Seen
pub mod Found
pub mod Places
pub mod Partners
pub mod Ranges
pub mod Asked
