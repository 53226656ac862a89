pub mod Accepted
mod Dangling
pub mod OfWrites
mod Refused
mod Rows
mod TouchedPaths
pub mod Touching
