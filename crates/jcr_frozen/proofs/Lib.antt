pub mod Found
pub mod Refused
mod VersionNames
